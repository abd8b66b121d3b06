-- Laws of the header's nibbles and of what five nibbles say.
-- Assumes nothing.
use mathlib.Core.Path.{◌≡◌, refl}
use mathlib.Core.Bool.{Bool, true, false, and-eq-true_iff}
use mathlib.Core.List.{List}
use Prim.Native.Nat.{ℕ, zero, suc, ◌+◌, ◌*◌, ◌/◌, ◌%◌, ◌<◌, ◌≤◌}
use native.Mathlib.Omega.{arith}
use lib.Dec.{ltb}
use lib.ListN.{length, get_or}
use borrow.Author.Tests.{lt-ltb, eq-eqb, ltb-true}
use Rattle.std.specs.Prelude.{Ok}
use Rattle.bits.specs.Bit.{bit, as_bit, is_set}
use Rattle.bits.specs.Check.{check}
use Rattle.bits.specs.Tab.{tab}
use Rattle.bits.proofs.Searches.{as_bit-le}
use Rattle.header.specs.declared.Header.{Header}
use Rattle.header.specs.Header.{c4, low_checks, with_checks, header_nibbles, checks_hold, zeros_hold, rate_holds, header_in, verdict_of}
use Rattle.refusal.specs.Refusal.{refuse}

-- a check bit is its own bit 0, and has no other
bit-of-check : (sum : ℕ) → bit 0 (sum % 2) ≡ sum % 2
unfolding bit
bit-of-check sum = omega arith

none_above : (sum : ℕ) → sum % 2 / 2 ≡ 0
none_above sum = omega arith

-- four check bits are a nibble
four-lt : (p q r s : ℕ) → p % 2 * 8 + q % 2 * 4 + r % 2 * 2 + s % 2 < 16
four-lt p q r s = omega arith

-- three nibbles with their checks are read as what they say
verdict-checks : (a b e : ℕ) → 2 ≤ e → e < 10
    → verdict_of (with_checks a b e) ≡ Ok (record { length = a * 16 + b; cr = e / 2; checked = is_set (e % 2) })
unfolding verdict_of with_checks
verdict-checks a b e low high =
    let some : 0 < e / 2 = omega arith in
    let few : e / 2 < 5 = omega arith in
    rw (eq-eqb (bit 0 (c4 a)) (c4 a) (bit-of-check _), eq-eqb (low_checks a b e) _ refl, eq-eqb (c4 a / 2) 0 (none_above _), lt-ltb _ _ some, lt-ltb _ _ few)

module _ (len cr : ℕ) (checked : Bool) where
  -- the header read back
  verdict-header : len < 256 → 1 ≤ cr → cr ≤ 4 → verdict_of (header_nibbles len cr checked) ≡ Ok (record { length = len; cr = cr; checked = checked })
  unfolding header_nibbles
  verdict-header h low high =
      let whole : len / 16 * 16 + len % 16 ≡ len = omega arith in
      let rate : (cr * 2 + as_bit checked) / 2 ≡ cr = omega (arith, as_bit-le checked) in
      rw (verdict-checks (len / 16) (len % 16) (cr * 2 + as_bit checked) (omega arith) (omega (arith, as_bit-le checked)), whole, rate, odd checked)
    where
      odd : (f : Bool) → is_set ((cr * 2 + as_bit f) % 2) ≡ f
      odd true = let one : (cr * 2 + 1) % 2 ≡ 1 = omega arith in rw one
      odd false = let none : (cr * 2 + 0) % 2 ≡ 0 = omega arith in rw none

  -- the header comes back from five nibbles that are its own
  pub header-back : (nib : ℕ → ℕ) → len < 256 → 1 ≤ cr → cr ≤ 4 → ((i : ℕ) → i < 5 → nib i ≡ get_or (header_nibbles len cr checked) i 0)
      → verdict_of (tab 5 nib) ≡ Ok (record { length = len; cr = cr; checked = checked })
  unfolding tab header_nibbles with_checks
  header-back nib h low high own =
      rw (own 0 (omega arith), own 1 (omega arith), own 2 (omega arith), own 3 (omega arith), own 4 (omega arith))
      (verdict-header h low high)

  pub length-header : length (header_nibbles len cr checked) ≡ 5
  unfolding header_nibbles with_checks
  length-header = refl

  -- each number of a header is a nibble
  pub header-nibble-lt : len < 256 → cr ≤ 4 → (i : ℕ) → get_or (header_nibbles len cr checked) i 0 < 16
  unfolding header_nibbles with_checks
  header-nibble-lt h k zero = omega arith
  header-nibble-lt h k (suc zero) = omega arith
  header-nibble-lt h k (suc (suc zero)) = omega (arith, as_bit-le checked)
  header-nibble-lt h k (suc (suc (suc zero))) = omega arith
  header-nibble-lt h k (suc (suc (suc (suc zero)))) = four-lt _ _ _ _
  header-nibble-lt h k (suc (suc (suc (suc (suc i))))) = omega arith

rate-range : (h : List ℕ) → rate_holds h ≡ true → (1 ≤ (header_in h).cr) × ((header_in h).cr ≤ 4)
rate-range h e =
    let (low, high) = (and-eq-true_iff (ltb 0 (get_or h 2 0 / 2)) (ltb (get_or h 2 0 / 2) 5)).0 e in
    (omega (arith, ltb-true 0 (get_or h 2 0 / 2) low), omega (arith, ltb-true (get_or h 2 0 / 2) 5 high))

-- what five nibbles say is in range
pub says_range : (nib : ℕ → ℕ) (said : Header) → ((i : ℕ) → nib i < 16) → verdict_of (tab 5 nib) ≡ Ok said
    → (said.length < 256) × (1 ≤ said.cr) × (said.cr ≤ 4)
unfolding verdict_of tab
says_range nib said small v = go (checks_hold (tab 5 nib)) (zeros_hold (tab 5 nib)) (rate_holds (tab 5 nib)) refl v
  where
    go : (p q r : Bool) → rate_holds (tab 5 nib) ≡ r
        → check p (refuse 9 0) (check q (refuse 10 0) (check r (refuse 11 0) (Ok (header_in (tab 5 nib))))) ≡ Ok said
        → (said.length < 256) × (1 ≤ said.cr) × (said.cr ≤ 4)
    go true true true e v =
        let is : header_in (tab 5 nib) ≡ said = cc in
        let (low, high) = rate-range (tab 5 nib) e in
        rw (← is) (omega (arith, small 0, small 1), low, high)
    go true true false e v = let z : ◌≡◌ {A = ℕ} 0 1 = cc in absurd (omega arith)
    go true false r e v = let z : ◌≡◌ {A = ℕ} 0 1 = cc in absurd (omega arith)
    go false q r e v = let z : ◌≡◌ {A = ℕ} 0 1 = cc in absurd (omega arith)
