-- Where a word stands in the table of readings, and what it is read as there.
-- Assumes nothing.
use mathlib.Core.Path.{◌≡◌, refl, ap, ◌∙◌}
use mathlib.Core.Bool.{false}
use mathlib.Core.List.{List}
use Prim.Native.Nat.{ℕ, zero, suc, ◌+◌, ◌-◌, ◌^◌, ◌≤◌, ◌<◌}
use native.Mathlib.Nat.{pow-le-pow_right}
use native.Mathlib.Decide.{ℕ_discrete}
use native.Mathlib.Omega.{arith}
use lib.Dec.{eqb}
use borrow.Author.Tests.{lt-ltb, le-ltb, lt-leb, le-leb, eq-eqb, ne_eqb}
use lib.ListN.{get_or}
use Rattle.bits.specs.Bit.{as_bit}
use Rattle.bits.specs.Bytes.{step_of}
use Rattle.bits.proofs.Tabs.{get_or-tab}
use Rattle.codeword.specs.Codeword.{read_as, nibble_of, flipped_bit, is_unreadable}
use Rattle.codeword.specs.Ranges.{Rate}
use Rattle.codeword.specs.Readings.{nibble_in, bit_in, clean_in, none_in, reading_of, reading_at, reading_table, step_table}
use Rattle.codeword.specs.Found.{Found, taken, repaired, unreadable}
use Rattle.codeword.proofs.CodeLaws.{nibble-lt, flipped_le}

-- the place of a word in the table
unfoldable pub place_of : ℕ → ℕ → ℕ
place_of cr w = 2 ^ (4 + cr) - 32 + w

-- no rate has fewer words than the 32 of CR 1
pub power_le : {cr : ℕ} → Rate cr → 32 ≤ 2 ^ (4 + cr)
power_le {cr} rate = pow-le-pow_right {n = 2} (omega arith) {i = 5} {j = 4 + cr} (omega (arith, rate.low))

-- the reading at the place is the word's
reading-at : (cr w k : ℕ) → Rate cr → w < 2 ^ (4 + cr) → k + 32 ≡ 2 ^ (4 + cr) + w → (reading_at k ≡ reading_of cr w) × (k < 480)
unfolding reading_at
reading-at zero w k r h e = absurd (omega (arith, r.low))
reading-at (suc zero) w k r h e = (rw (lt-ltb k 32 (omega arith)) (ap (reading_of 1) (omega arith)), omega arith)
reading-at (suc (suc zero)) w k r h e = (rw (le-ltb k 32 (omega arith), lt-ltb k 96 (omega arith)) (ap (reading_of 2) (omega arith)), omega arith)
reading-at (suc (suc (suc zero))) w k r h e =
    (rw (le-ltb k 32 (omega arith), le-ltb k 96 (omega arith), lt-ltb k 224 (omega arith)) (ap (reading_of 3) (omega arith)), omega arith)
reading-at (suc (suc (suc (suc zero)))) w k r h e =
    (rw (le-ltb k 32 (omega arith), le-ltb k 96 (omega arith), le-ltb k 224 (omega arith)) (ap (reading_of 4) (omega arith)), omega arith)
reading-at (suc (suc (suc (suc (suc cr))))) w k r h e = absurd (omega (arith, r.high))

-- the place k of a word w at a rate
module _ {cr w k : ℕ} (rate : Rate cr) (word : w < 2 ^ (4 + cr)) (at : k ≡ place_of cr w) where
  behind : k + 32 ≡ 2 ^ (4 + cr) + w
  unfolding place_of
  behind = omega (arith, power_le rate)

  pub place-lt : k < 480
  place-lt = (reading-at cr w k rate word behind).1

  -- the entry found there
  pub entry-is : {table : List ℕ} → table ≡ reading_table → get_or table k 0 ≡ reading_of cr w
  unfolding reading_table
  entry-is {table} t = ap (λ (l : List ℕ). get_or l k 0) t ∙ get_or-tab 480 reading_at k 0 place-lt ∙ (reading-at cr w k rate word behind).0

-- what the byte of a reading tells
module _ (cr w : ℕ) {e : ℕ} (entry : e ≡ reading_of cr w) where
  pub nibble-is : nibble_in e ≡ nibble_of (read_as cr w)
  nibble-is = omega (arith, entry, nibble-lt cr w)

  pub bit_is : bit_in e ≡ flipped_bit (read_as cr w)
  bit_is = omega (arith, entry, nibble-lt cr w)

  pub clean_is : is_unreadable (read_as cr w) ≡ false → Rate cr → w < 2 ^ (4 + cr) → clean_in e ≡ as_bit (eqb (flipped_bit (read_as cr w)) 8)
  clean_is can rate word = by (ℕ_discrete (flipped_bit (read_as cr w)) 8) (flipped_le cr w rate word can)
    where
      by : Dec (flipped_bit (read_as cr w) ≡ 8) → flipped_bit (read_as cr w) ≤ 8 → clean_in e ≡ as_bit (eqb (flipped_bit (read_as cr w)) 8)
      by (yes q) l = rw (eq-eqb (flipped_bit (read_as cr w)) 8 q) (omega (arith, entry, nibble-lt cr w, q))
      by (no q) l = rw (ne_eqb (flipped_bit (read_as cr w)) 8 q) (omega (arith, entry, nibble-lt cr w))

  pub none_is : Rate cr → w < 2 ^ (4 + cr) → none_in e ≡ is_unreadable (read_as cr w)
  none_is rate word = of (read_as cr w) refl (nibble-lt cr w) (flipped_le cr w rate word)
    where
      of : (f : Found) → read_as cr w ≡ f → nibble_of f < 16 → (is_unreadable f ≡ false → flipped_bit f ≤ 8) → none_in e ≡ is_unreadable f
      of (taken d) r l b = lt-leb 144 e (omega (arith, rw r at entry))
      of (repaired d j) r l b = lt-leb 144 e (omega (arith, rw r at entry, b refl))
      of unreadable r l b = le-leb 144 e (omega (arith, rw r at entry))

-- the step of a bit
pub step_is : {table : List ℕ} → table ≡ step_table → (b : ℕ) → b < 9 → get_or table b 0 ≡ step_of 8 b
unfolding step_table
step_is t b h = ap (λ (l : List ℕ). get_or l b 0) t ∙ get_or-tab 9 (step_of 8) b 0 h
