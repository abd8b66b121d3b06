-- What is computed at every rate and word: what a word is read as, by its distance from each codeword.
-- Assumes nothing.
use mathlib.Core.Bool.{Bool, true, ◌&&◌, ◌||◌, cond}
use mathlib.Core.Path.{◌≡◌}
use Prim.Native.Nat.{ℕ, zero, suc, ◌+◌, ◌-◌, ◌^◌, ◌<◌}
use native.Mathlib.Omega.{arith}
use lib.Dec.{T, leb, ltb}
use Rattle.bits.specs.Bit.{bit, number}
use Rattle.bits.specs.Search.{first, how_many}
use Rattle.bits.proofs.Every.{every, at}
use Rattle.codeword.specs.Codeword.{parity, parity_of_all, parity_bit, codeword_bit, codeword, apart, flipped, bit_to, read_as}
use Rattle.codeword.specs.Ranges.{Rate}
use Rattle.codeword.specs.Found.{Found, taken, repaired, unreadable}
use Rattle.codeword.proofs.Alike.{alike}

-- what a word at this distance from the codeword of d is read as; one bit away, there is a bit that makes it that codeword
unfoldable pub told : ℕ → ℕ → ℕ → ℕ → Found → Bool
told cr w d zero r = alike r (taken d)
told cr w d (suc zero) r = ltb (bit_to cr w d) (4 + cr) && alike r (cond (leb 3 cr) (repaired d (bit_to cr w d)) unreadable)
told cr w d (suc (suc zero)) r = ltb cr 4 || alike r unreadable
told cr w d (suc (suc (suc n))) r = true

unfoldable told_all : ℕ → ℕ → Found → Bool
told_all cr w r = every 16 (λ d. told cr w d (apart cr w (codeword cr d)) r)

-- THE TEST
rates : T (every 4 (λ k. every (2 ^ (5 + k)) (λ w. told_all (suc k) w (read_as (suc k) w))))
unfolding every told told_all alike read_as bit_to flipped first apart how_many codeword codeword_bit parity_bit parity_of_all parity bit number
rates = tt

module _ (cr w : ℕ) (rate : Rate cr) (word : w < 2 ^ (4 + cr)) where
  tested : T (told_all cr w (read_as cr w))
  tested =
      let s : suc (cr - 1) ≡ cr = omega arith in
      let p : 5 + (cr - 1) ≡ 4 + cr = omega arith in
      at (2 ^ (4 + cr)) _ (rw (p, s) at (at 4 _ rates (cr - 1) (omega arith))) w word

  pub by-distance : (d n : ℕ) → d < 16 → apart cr w (codeword cr d) ≡ n → T (told cr w d n (read_as cr w))
  unfolding told_all
  by-distance d n h e = rw e at (at 16 _ tested d h)
