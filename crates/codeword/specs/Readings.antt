-- What all received words are read as, as a table of numbers. Nothing here is part of an offered operation's contract.
-- Assumes nothing.
use Rattle.std.specs.Prelude.{Bool, cond, List, ℕ, ◌+◌, ◌-◌, ◌*◌, ◌/◌, ◌%◌, leb, ltb}
use Rattle.bits.specs.Bytes.{step_of}
use Rattle.bits.specs.Tab.{tab}
use Rattle.codeword.specs.Codeword.{read_as, nibble_of, flipped_bit}
use Rattle.codeword.specs.Found.{Found}

-- a reading as a byte: 16 times the bit that was flipped, and the nibble
abbrev pub number_of_found : Found → ℕ
number_of_found f = 16 * flipped_bit f + nibble_of f

-- what a byte tells: the nibble; the bit; that no bit was flipped, as 1 or 0; that the word can't be read
abbrev pub nibble_in : ℕ → ℕ
nibble_in n = n % 16

abbrev pub bit_in : ℕ → ℕ
bit_in n = n / 16

abbrev pub clean_in : ℕ → ℕ
clean_in n = n / 128

abbrev pub none_in : ℕ → Bool
none_in n = leb 144 n

abbrev pub reading_of : ℕ → ℕ → ℕ
reading_of cr w = number_of_found (read_as cr w)

-- the reading at place k: 32 words at CR 1, then 64 at CR 2, 128 at CR 3 and 256 at CR 4
unfoldable pub reading_at : ℕ → ℕ
reading_at k =
    cond (ltb k 32) (reading_of 1 k) (cond (ltb k 96) (reading_of 2 (k - 32)) (cond (ltb k 224) (reading_of 3 (k - 96)) (reading_of 4 (k - 224))))

unfoldable pub reading_table : List ℕ
reading_table = tab 480 reading_at

-- what each bit adds to a number with a byte for each of eight: one in its byte; no bit, 8, adds nothing
unfoldable pub step_table : List ℕ
step_table = tab 9 (step_of 8)
