-- What the inner steps of coding hand to each other, said in the definitions of document 01's rules. Nothing here is part of
-- write_frame's contract.
-- Assumes nothing.
use Rattle.std.specs.Prelude.{Bool, cond, List, ℕ, ◌+◌, ◌/◌, ◌%◌, eqb}
use Rattle.bits.specs.Bit.{bit, is_set}
use Rattle.block.specs.Gray.{value_of_word, number_of_value}
use Rattle.block.specs.Grid.{grid, word_of_grid}
use Rattle.layout.specs.declared.Block.{Block}
use Rattle.coding.specs.Symbols.{codeword_in_block}

-- the places for nibbles that a frame is laid out in, which the code has as PLACES
abbrev pub places : ℕ
places = 532

-- byte p of the checksum
unfoldable pub checksum_byte : ℕ → ℕ → ℕ
checksum_byte checksum p = cond (eqb p 0) (checksum % 256) (checksum / 256)

-- the grid of a block's codewords
unfoldable pub grid_of_nibbles : Block → (ℕ → ℕ) → List (List Bool)
grid_of_nibbles B nibble = grid B.rows (4 + B.rate) (λ i j. is_set (bit j (codeword_in_block B nibble i)))

-- symbol j of a block with this grid
unfoldable pub symbol_of_column : Block → List (List Bool) → ℕ → ℕ
symbol_of_column B g j = number_of_value B.spaced (value_of_word B.rows (word_of_grid B.rows g j))
