-- The tests of the writer on the rows of numbers that it was lent.
-- Assumes nothing.
use Rattle.std.specs.Prelude.{Bool, true, ◌&&◌, List, ℕ, zero, suc, ◌+◌, ◌*◌, ◌/◌, ◌%◌, leb, eqb, get_or}
use Rattle.day.specs.Day.{within, is_byte, is_flag, is_cr}

-- so many numbers are whole rows, no more than a section has
unfoldable pub few_rows : ℕ → ℕ → Bool
few_rows numbers row = eqb (numbers % row) 0 && leb (numbers / row) 255

-- a frame's row without its payload; two bytes hold every number of repairs that a row can name
unfoldable pub row_good : ℕ → List ℕ → ℕ → Bool
row_good settings rows i =
    within 0 settings (get_or rows (5 * i) 0) && (is_cr (get_or rows (5 * i + 1) 0)
    && (is_flag (get_or rows (5 * i + 2) 0) && is_byte (get_or rows (5 * i + 4) 0)))

-- the same of the first i
unfoldable pub rows_good : ℕ → List ℕ → ℕ → Bool
rows_good settings rows zero = true
rows_good settings rows (suc i) = rows_good settings rows i && row_good settings rows i
