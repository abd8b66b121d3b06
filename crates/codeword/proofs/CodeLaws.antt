-- Laws of the code: what a word at each distance from a codeword is read as, and that no other codeword is as near.
-- Assumes nothing.
use mathlib.Core.Path.{◌≡◌, refl, sym, ap, ◌∙◌, subst}
use mathlib.Core.Bool.{Bool, true, false, not, ◌&&◌, cond, false≢true}
use Prim.Native.Nat.{ℕ, zero, suc, ◌+◌, ◌-◌, ◌^◌, ◌≤◌, ◌<◌}
use native.Mathlib.Omega.{arith}
use lib.Dec.{eqb, leb, ltb, ltb→lt}
use borrow.Author.Tests.{ltb-true, le-leb, lt-leb, eqb-true, eq-eqb, ne_eqb, not-false}
use Rattle.bits.specs.Bit.{bit}
use Rattle.bits.specs.Search.{first}
use Rattle.bits.proofs.Every.{and_left, and_right}
use Rattle.bits.proofs.Bits.{bit-lt, bit-number, number_lt, same_bits}
use Rattle.bits.proofs.Searches.{first_found, how_many-zero}
use Rattle.codeword.specs.Codeword.{parity, parity_of_all, parity_bit, codeword_bit, codeword, apart, flipped, bit_to, read_as, nibble_of, flipped_bit, is_repaired, is_unreadable}
use Rattle.codeword.specs.Ranges.{Rate}
use Rattle.codeword.specs.Found.{Found, taken, repaired, unreadable}
use Rattle.codeword.proofs.Alike.{alike→eq}
use Rattle.codeword.proofs.EveryWord.{told, by-distance}

module _ (cr w d : ℕ) (rate : Rate cr) (word : w < 2 ^ (4 + cr)) (nibble : d < 16) where
  -- a word with the bits of a codeword is taken
  pub found-same : apart cr w (codeword cr d) ≡ 0 → read_as cr w ≡ taken d
  unfolding told
  found-same e = alike→eq _ _ (by-distance cr w rate word d 0 nibble e)

  -- a word one bit away from a codeword is repaired at CR 3 and 4, and else unreadable
  found-one : apart cr w (codeword cr d) ≡ 1 → read_as cr w ≡ cond (leb 3 cr) (repaired d (bit_to cr w d)) unreadable
  unfolding told
  found-one e = alike→eq _ _ (and_right (ltb (bit_to cr w d) (4 + cr)) _ (by-distance cr w rate word d 1 nibble e))

  -- flipping one of its bits makes it that codeword
  pub flip-found : apart cr w (codeword cr d) ≡ 1 → (bit_to cr w d < 4 + cr) × (flipped cr (bit_to cr w d) w ≡ codeword cr d)
  unfolding told bit_to
  flip-found e =
      let within : bit_to cr w d < 4 + cr = ltb→lt _ _ (and_left (ltb (bit_to cr w d) (4 + cr)) _ (by-distance cr w rate word d 1 nibble e)) in
      (within, eqb-true _ _ (first_found (λ j. eqb (flipped cr j w) (codeword cr d)) (4 + cr) 0 (omega (arith, within))))

  -- the same at CR 3 and 4
  pub found-repaired : 3 ≤ cr → apart cr w (codeword cr d) ≡ 1 → read_as cr w ≡ repaired d (bit_to cr w d)
  found-repaired h e = rw (le-leb 3 cr h) at (found-one e)

  -- the same at CR 1 and 2
  pub found-unreadable : cr ≤ 2 → apart cr w (codeword cr d) ≡ 1 → read_as cr w ≡ unreadable
  found-unreadable h e = rw (lt-leb 3 cr (omega arith)) at (found-one e)

-- at CR 4 a word two bits away from a codeword is unreadable
pub found-two : (w d : ℕ) → w < 256 → d < 16 → apart 4 w (codeword 4 d) ≡ 2 → read_as 4 w ≡ unreadable
unfolding told
found-two w d h l e = alike→eq _ _ (by-distance 4 w (record { low = omega arith; high = omega arith }) h d 2 l e)

-- a word with the bits of a codeword is that codeword
parity-lt : (k d : ℕ) → parity k d < 2
unfolding parity
parity-lt zero d = omega arith
parity-lt (suc zero) d = omega arith
parity-lt (suc (suc zero)) d = omega arith
parity-lt (suc (suc (suc k))) d = omega arith

codeword-lt : (cr d : ℕ) → codeword cr d < 2 ^ (4 + cr)
unfolding codeword codeword_bit parity_bit parity_of_all
codeword-lt cr d = number_lt (4 + cr) (codeword_bit cr d) (λ j. of (ltb j 4) (bit-lt j d) (of (eqb cr 1) (omega arith) (parity-lt (j - 4) d)))
  where
    of : (b : Bool) {x y : ℕ} → x < 2 → y < 2 → cond b x y < 2
    of true h l = h
    of false h l = l

pub same_word : (cr w d : ℕ) → w < 2 ^ (4 + cr) → apart cr w (codeword cr d) ≡ 0 → w ≡ codeword cr d
unfolding apart
same_word cr w d word e = same_bits (4 + cr) w (codeword cr d) word (codeword-lt cr d) (λ k l. eqb-true _ _ (not-false _ (how_many-zero _ (4 + cr) e k l)))

-- at most one nibble's codeword is the word, and at CR 3 and 4 at most one is one bit away from it
module _ (cr w d e : ℕ) (rate : Rate cr) (word : w < 2 ^ (4 + cr)) (one : d < 16) (other : e < 16) where
  pub one-taken : apart cr w (codeword cr d) ≡ 0 → apart cr w (codeword cr e) ≡ 0 → d ≡ e
  one-taken p q = ap nibble_of (sym (found-same cr w d rate word one p) ∙ found-same cr w e rate word other q)

  pub one-repaired : 3 ≤ cr → apart cr w (codeword cr d) ≡ 1 → apart cr w (codeword cr e) ≡ 1 → d ≡ e
  one-repaired h p q = ap nibble_of (sym (found-repaired cr w d rate word one h p) ∙ found-repaired cr w e rate word other h q)

-- a word that flipping bit j makes a codeword differs from it in that bit alone
pub differs_at : (cr w d j k : ℕ) → flipped cr j w ≡ codeword cr d → k < 4 + cr → not (eqb (bit k w) (bit k (codeword cr d))) ≡ eqb k j
unfolding flipped
differs_at cr w d j k e h =
    let turned : ℕ → ℕ = λ i. cond (eqb i j) (1 - bit i w) (bit i w) in
    let is : bit k (codeword cr d) ≡ turned k = ap (bit k) (sym e) ∙ bit-number (4 + cr) turned (λ i. small (eqb i j) (bit i w) (bit-lt i w)) k h in
    rw is (by (eqb k j) (bit k w) (bit-lt k w))
  where
    small : (b : Bool) (x : ℕ) → x < 2 → cond b (1 - x) x < 2
    small true x h = omega arith
    small false x h = h

    by : (b : Bool) (x : ℕ) → x < 2 → not (eqb x (cond b (1 - x) x)) ≡ b
    by true zero l = refl
    by true (suc zero) l = refl
    by true (suc (suc x)) l = absurd (omega arith)
    by false x l = ap not (eq-eqb x x refl)

-- what a reading says of the word: of one that is repaired, the codeword that is one bit away, and that bit
abbrev Near : ℕ → ℕ → Found → Type 0
Near cr w (taken d) = d < 16
Near cr w (repaired d j) = (d < 16) × (apart cr w (codeword cr d) ≡ 1) × (j ≡ bit_to cr w d)
Near cr w unreadable = Unit

near : (cr w : ℕ) → Near cr w (read_as cr w)
unfolding read_as
near cr w = reach (leb 3 cr) _ _ refl refl
  where
    away : ℕ → ℕ
    away n = first (λ d. eqb (apart cr w (codeword cr d)) n) 16 0

    reach : (a b c : Bool) → ltb (away 0) 16 ≡ b → ltb (away 1) 16 ≡ c
        → Near cr w (cond b (taken (away 0)) (cond (a && c) (repaired (away 1) (bit_to cr w (away 1))) unreadable))
    reach a true c p q = ltb-true (away 0) 16 p
    reach true false true p q =
        let l : away 1 < 16 = ltb-true (away 1) 16 q in
        (l, eqb-true _ _ (first_found (λ d. eqb (apart cr w (codeword cr d)) 1) 16 0 l), refl)
    reach true false false p q = tt
    reach false false c p q = tt

-- the nibble read is a nibble
pub nibble-lt : (cr w : ℕ) → nibble_of (read_as cr w) < 16
nibble-lt cr w = of (read_as cr w) (near cr w)
  where
    of : (f : Found) → Near cr w f → nibble_of f < 16
    of (taken d) n = n
    of (repaired d j) n = n.0
    of unreadable n = omega arith

module _ (cr w : ℕ) (rate : Rate cr) (word : w < 2 ^ (4 + cr)) where
  -- a word that is repaired is made the codeword of the nibble read by flipping the bit that is told
  pub repaired-by : (d j : ℕ) → read_as cr w ≡ repaired d j → (j < 4 + cr) × (flipped cr j w ≡ codeword cr d)
  repaired-by d j e =
      let (nibble, one, is) = subst (Near cr w) e (near cr w) in
      rw is (flip-found cr w d rate word nibble one)

  -- the bit is one of the word's where there is one; 8 where the word is a codeword
  pub flipped-lt : is_repaired (read_as cr w) ≡ true → flipped_bit (read_as cr w) < 4 + cr
  flipped-lt = of (read_as cr w) refl
    where
      of : (f : Found) → read_as cr w ≡ f → is_repaired f ≡ true → flipped_bit f < 4 + cr
      of (taken d) e h = absurd (false≢true h)
      of (repaired d j) e h = (repaired-by d j e).0
      of unreadable e h = absurd (false≢true h)

  pub flipped_le : is_unreadable (read_as cr w) ≡ false → flipped_bit (read_as cr w) ≤ 8
  flipped_le = of (read_as cr w) refl
    where
      of : (f : Found) → read_as cr w ≡ f → is_unreadable f ≡ false → flipped_bit f ≤ 8
      of (taken d) e h = omega arith
      of (repaired d j) e h = omega (arith, (repaired-by d j e).0, rate.high)
      of unreadable e h = absurd (false≢true (sym h))

  -- a word that can be read is repaired exactly where a bit was flipped
  pub repaired-where : is_unreadable (read_as cr w) ≡ false → is_repaired (read_as cr w) ≡ not (eqb (flipped_bit (read_as cr w)) 8)
  repaired-where = of (read_as cr w) refl
    where
      of : (f : Found) → read_as cr w ≡ f → is_unreadable f ≡ false → is_repaired f ≡ not (eqb (flipped_bit f) 8)
      of (taken d) e h = refl
      of (repaired d j) e h = sym (ap not (ne_eqb j 8 (λ q. omega (arith, (repaired-by d j e).0, rate.high))))
      of unreadable e h = absurd (false≢true (sym h))
