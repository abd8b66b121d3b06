-- Document 01, "Header".
-- Assumes nothing.
use Rattle.std.specs.Prelude.{Bool, ◌&&◌, List, [], ◌∷◌, ℕ, ◌+◌, ◌*◌, ◌/◌, ◌%◌, eqb, ltb, get_or, Result, Ok}
use Rattle.bits.specs.Bit.{bit, as_bit, is_set}
use Rattle.bits.specs.Check.{check}
use Rattle.header.specs.declared.Header.{Header}
use Rattle.refusal.specs.Refusal.{refuse}
use Rattle.refusal.specs.declared.Refusal.{Refusal}

-- the check sums over the first three nibbles a, b and e, mod 2
abbrev pub c4 : ℕ → ℕ
c4 a = (bit 3 a + bit 2 a + bit 1 a + bit 0 a) % 2

abbrev pub c3 : ℕ → ℕ → ℕ → ℕ
c3 a b e = (bit 3 a + bit 3 b + bit 2 b + bit 1 b + bit 0 e) % 2

abbrev pub c2 : ℕ → ℕ → ℕ → ℕ
c2 a b e = (bit 2 a + bit 3 b + bit 0 b + bit 3 e + bit 1 e) % 2

abbrev pub c1 : ℕ → ℕ → ℕ → ℕ
c1 a b e = (bit 1 a + bit 2 b + bit 0 b + bit 2 e + bit 1 e + bit 0 e) % 2

abbrev pub c0 : ℕ → ℕ → ℕ → ℕ
c0 a b e = (bit 0 a + bit 1 b + bit 0 b + bit 3 e + bit 2 e + bit 1 e + bit 0 e) % 2

-- c3 c2 c1 c0 with c3 on top
abbrev pub low_checks : ℕ → ℕ → ℕ → ℕ
low_checks a b e = c3 a b e * 8 + c2 a b e * 4 + c1 a b e * 2 + c0 a b e

-- the five nibbles whose first three are a, b and e
unfoldable pub with_checks : ℕ → ℕ → ℕ → List ℕ
with_checks a b e = a ∷ b ∷ e ∷ c4 a ∷ low_checks a b e ∷ []

-- length high, length low, CR x 2 + checksum flag, then the checks
unfoldable pub header_nibbles : ℕ → ℕ → Bool → List ℕ
header_nibbles length cr checked = with_checks (length / 16) (length % 16) (cr * 2 + as_bit checked)

-- the five check bits are those of the first three nibbles
abbrev pub checks_hold : List ℕ → Bool
checks_hold h =
    eqb (bit 0 (get_or h 3 0)) (c4 (get_or h 0 0)) && eqb (get_or h 4 0) (low_checks (get_or h 0 0) (get_or h 1 0) (get_or h 2 0))

-- the bits that must be 0: the upper three of the fourth nibble
abbrev pub zeros_hold : List ℕ → Bool
zeros_hold h = eqb (get_or h 3 0 / 2) 0

-- the header's CR is 1 to 4
abbrev pub rate_holds : List ℕ → Bool
rate_holds h = ltb 0 (get_or h 2 0 / 2) && ltb (get_or h 2 0 / 2) 5

-- what the first three nibbles say
abbrev pub header_in : List ℕ → Header
header_in h = record { length = get_or h 0 0 * 16 + get_or h 1 0; cr = get_or h 2 0 / 2; checked = is_set (get_or h 2 0 % 2) }

-- refusals 9, 10 and 11 in that order, each at place 0, or what the header says
unfoldable pub verdict_of : List ℕ → Result Header Refusal
verdict_of h =
    check (checks_hold h) (refuse 9 0)
    (check (zeros_hold h) (refuse 10 0)
    (check (rate_holds h) (refuse 11 0)
    (Ok (header_in h))))
