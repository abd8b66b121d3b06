-- Document 01, "Nibbles and codewords". A rate is given by its CR, 1 to 4: 4/5 to 4/8.
-- Assumes nothing.
use Rattle.std.specs.Prelude.{Bool, true, false, not, ◌&&◌, cond, ℕ, zero, suc, ◌+◌, ◌-◌, ◌%◌, eqb, leb, ltb}
use Rattle.bits.specs.Bit.{bit, number}
use Rattle.bits.specs.Search.{first, how_many}
use Rattle.codeword.specs.Found.{Found, taken, repaired, unreadable}

-- the parities p0 to p3 of a nibble of the bits d0 to d3, sums mod 2
unfoldable pub parity : ℕ → ℕ → ℕ
parity zero d = (bit 0 d + bit 1 d + bit 2 d) % 2
parity (suc zero) d = (bit 1 d + bit 2 d + bit 3 d) % 2
parity (suc (suc zero)) d = (bit 0 d + bit 1 d + bit 3 d) % 2
parity (suc (suc (suc k))) d = (bit 0 d + bit 2 d + bit 3 d) % 2

-- the bit that CR 1 adds
unfoldable pub parity_of_all : ℕ → ℕ
parity_of_all d = (bit 0 d + bit 1 d + bit 2 d + bit 3 d) % 2

-- CR 1 adds one bit; CR 2 adds p0 p1, CR 3 p0 p1 p2, CR 4 p0 to p3
unfoldable pub parity_bit : ℕ → ℕ → ℕ → ℕ
parity_bit cr d k = cond (eqb cr 1) (parity_of_all d) (parity k d)

-- a codeword's bits 0 to 3 are d0 to d3; parity starts at bit 4
unfoldable pub codeword_bit : ℕ → ℕ → ℕ → ℕ
codeword_bit cr d j = cond (ltb j 4) (bit j d) (parity_bit cr d (j - 4))

unfoldable pub codeword : ℕ → ℕ → ℕ
codeword cr d = number (4 + cr) (codeword_bit cr d)

-- in how many of the CR + 4 bits of a codeword two words differ
unfoldable pub apart : ℕ → ℕ → ℕ → ℕ
apart cr v w = how_many (λ j. not (eqb (bit j v) (bit j w))) (4 + cr)

-- a word of CR + 4 bits with its bit j flipped
unfoldable pub flipped : ℕ → ℕ → ℕ → ℕ
flipped cr j w = number (4 + cr) (λ k. cond (eqb k j) (1 - bit k w) (bit k w))

-- the bit that a word is repaired at: flipping it makes the word the codeword of d
unfoldable pub bit_to : ℕ → ℕ → ℕ → ℕ
bit_to cr w d = first (λ j. eqb (flipped cr j w) (codeword cr d)) (4 + cr) 0

-- what a word of CR + 4 bits is read as: found in the code it is taken; at CR 3 and 4 a word one bit away from a codeword
-- is repaired to it, by flipping that bit; else it can't be read. `away n` is the nibble whose codeword is n bits away, 16 where
-- there is none; that there is at most one is proved in proofs/CodeLaws.antt, `one-taken` and `one-repaired`, that there is such
-- a bit there too, `repaired-by`, and that at CR 3 every word can be read in proofs/Perfect.antt, `always-read`
unfoldable pub read_as : ℕ → ℕ → Found
read_as cr w =
    let away : ℕ → ℕ = λ n. first (λ d. eqb (apart cr w (codeword cr d)) n) 16 0 in
    cond (ltb (away 0) 16) (taken (away 0)) (cond (leb 3 cr && ltb (away 1) 16) (repaired (away 1) (bit_to cr w (away 1))) unreadable)

-- the nibble that is read; the bit that was flipped, 8 where the word is a codeword and 9 where it can't be read; whether it is a
-- repair, and whether it can't be read
abbrev pub nibble_of : Found → ℕ
nibble_of (taken d) = d
nibble_of (repaired d j) = d
nibble_of unreadable = 0

abbrev pub flipped_bit : Found → ℕ
flipped_bit (taken d) = 8
flipped_bit (repaired d j) = j
flipped_bit unreadable = 9

abbrev pub is_repaired : Found → Bool
is_repaired (taken d) = false
is_repaired (repaired d j) = true
is_repaired unreadable = false

abbrev pub is_unreadable : Found → Bool
is_unreadable (taken d) = false
is_unreadable (repaired d j) = false
is_unreadable unreadable = true
