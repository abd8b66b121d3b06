-- The codewords as rows of a block's grid.
-- Assumes nothing.
use Rattle.std.specs.Prelude.{Bool, false, List, ℕ, ◌+◌, ◌/◌, ◌%◌}
use Rattle.bits.specs.Bit.{bit, is_set}
use Rattle.bits.specs.Tab.{over, blank}
use Rattle.codeword.specs.Codeword.{codeword}

-- 16 rows for each rate, that of nibble d at CR is row 16 x (CR - 1) + d: the codeword's CR + 4 bits, and false in the rest
-- of the 8 cells
unfoldable pub row_of_code : ℕ → List Bool
row_of_code k =
    let cr : ℕ = k / 16 + 1 in
    over (4 + cr) (λ j. is_set (bit j (codeword cr (k % 16)))) (blank 8 false)
