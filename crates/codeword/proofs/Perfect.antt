-- The code of 4/7 leaves no word out: each of the 128 is a codeword or one bit from exactly one, so each can be read.
-- Assumes nothing.
use mathlib.Core.Path.{◌≡◌, refl, ap}
use mathlib.Core.Bool.{false}
use Prim.Native.Nat.{ℕ, zero, suc, ◌≤◌, ◌<◌}
use native.Mathlib.Omega.{arith}
use lib.Dec.{T, leb, eqb, eqb→eq}
use borrow.Author.Tests.{leb-true}
use Rattle.bits.specs.Bit.{bit, number}
use Rattle.bits.specs.Search.{first, how_many}
use Rattle.bits.proofs.Every.{every, at}
use Rattle.bits.proofs.Searches.{first_found, how_many-some}
use Rattle.codeword.specs.Codeword.{parity, parity_of_all, parity_bit, codeword_bit, codeword, apart, read_as, is_unreadable}
use Rattle.codeword.specs.Ranges.{Rate}
use Rattle.codeword.proofs.CodeLaws.{found-same, found-repaired}

-- how many codewords are a word or one bit from it
unfoldable pub near : ℕ → ℕ → ℕ
near cr w = how_many (λ d. leb (apart cr w (codeword cr d)) 1) 16

-- THE TEST
words : T (every 128 (λ w. eqb (near 3 w) 1))
unfolding every near apart how_many codeword codeword_bit parity_bit parity_of_all parity bit number
words = tt

module _ (w : ℕ) (word : w < 128) where
  -- THE LAW
  pub one-near : near 3 w ≡ 1
  one-near = eqb→eq (near 3 w) 1 (at 128 _ words w word)

  -- the nibble whose codeword that is
  nearest : ℕ
  nearest = first (λ d. leb (apart 3 w (codeword 3 d)) 1) 16 0

  nearest-lt : nearest < 16
  unfolding nearest near
  nearest-lt = how_many-some _ 16 (omega (arith, one-near))

  nearest-le : apart 3 w (codeword 3 nearest) ≤ 1
  unfolding nearest
  nearest-le = leb-true _ 1 (first_found _ 16 0 nearest-lt)

  -- it is the word, or one bit away
  pub by-nearest : {A : Type 0} → ((d : ℕ) → d < 16 → apart 3 w (codeword 3 d) ≡ 0 → A) → ((d : ℕ) → d < 16 → apart 3 w (codeword 3 d) ≡ 1 → A) → A
  by-nearest {A = A} same away = go (apart 3 w (codeword 3 nearest)) refl nearest-le
    where
      go : (n : ℕ) → apart 3 w (codeword 3 nearest) ≡ n → n ≤ 1 → A
      go zero e h = same nearest nearest-lt e
      go (suc zero) e h = away nearest nearest-lt e
      go (suc (suc n)) e h = absurd (omega arith)

  -- so the word can be read
  pub always-read : is_unreadable (read_as 3 w) ≡ false
  always-read =
      by-nearest (λ d l e. ap is_unreadable (found-same 3 w d rate word l e)) (λ d l e. ap is_unreadable (found-repaired 3 w d rate word l (omega arith) e))
    where
      rate : Rate 3
      rate = record { low = omega arith; high = omega arith }
