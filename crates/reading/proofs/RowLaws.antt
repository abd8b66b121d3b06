-- The rows of a block's grid.
-- Assumes nothing.
use mathlib.Core.Path.{◌≡◌, sym, ap, ◌∙◌}
use mathlib.Core.Bool.{Bool}
use mathlib.Core.List.{List}
use Prim.Native.Nat.{ℕ, ◌+◌, ◌-◌, ◌^◌, ◌≤◌, ◌<◌}
use native.Mathlib.Omega.{arith}
use lib.ListN.{get_or}
use Rattle.bits.specs.Tab.{blank}
use Rattle.bits.proofs.Bits.{number_lt, as_bit-lt}
use Rattle.bits.proofs.Tabs.{get_or-over}
use Rattle.block.specs.Grid.{cell, codeword_of_grid}
use Rattle.block.proofs.BlockLaws.{codeword-through-grid}
use Rattle.codeword.specs.Codeword.{read_as}
use Rattle.layout.specs.declared.Block.{Block}
use Rattle.layout.specs.declared.Frame.{Frame}
use Rattle.layout.specs.Layout.{rows_of_first, first_block, block_of}
use Rattle.layout.specs.Ranges.{Valid, Fits}
use Rattle.layout.proofs.LayoutLaws.{rate-fits}
use Rattle.reading.specs.Found.{word_in_block, found_in_block, found_at}
use Rattle.reading.specs.Stages.{symbol_word, grid_of_symbols, read_row, rows_from}
use Rattle.reading.proofs.ReadingLaws.{found-in-block}

-- a row of a block's grid is the word received for it
grid-row : (B : Block) (symbols : List ℕ) (i : ℕ) → B.rate ≤ 4 → i < B.rows → codeword_of_grid (4 + B.rate) (grid_of_symbols B symbols) i ≡ word_in_block B symbols i
unfolding grid_of_symbols word_in_block symbol_word
grid-row B symbols i narrow h =
    let columns : ℕ = 4 + B.rate in
    codeword-through-grid B.rows columns B.spaced (λ j. get_or symbols (B.symbol + j) 0) _ i (omega arith) h (λ j l. get_or-over columns (symbol_word B symbols) (blank 8 0) j 0 l)

-- it is read as that word is
pub row-in-block : (B : Block) (symbols : List ℕ) (i : ℕ) → B.rate ≤ 4 → i < B.rows → read_row B.rate (grid_of_symbols B symbols) i ≡ found_in_block B symbols i
unfolding read_row found_in_block
row-in-block B symbols i narrow h = ap (read_as B.rate) (grid-row B symbols i narrow h)

-- a row of block 0's grid, whatever the rest of the frame is like
pub row-in-first : (sf : ℕ) (symbols : List ℕ) (i : ℕ) → i < sf - 2 → read_row 4 (grid_of_symbols (first_block sf) symbols) i ≡ found_in_block (first_block sf) symbols i
unfolding first_block rows_of_first
row-in-first sf symbols i h = row-in-block (first_block sf) symbols i (omega arith) h

-- a row of a block's grid is read as the frame's codeword
pub row-found : (F : Frame) (b : ℕ) {B : Block} (symbols : List ℕ) {g : List (List Bool)} (from i : ℕ) → Valid F → B ≡ block_of F b
    → g ≡ grid_of_symbols B symbols → from + i < B.rows → rows_from B.rate g from i ≡ found_at F symbols (B.codeword + (from + i))
unfolding rows_from
row-found F b {B} symbols {g} from i v e w h =
    let row : read_row B.rate g (from + i) ≡ found_in_block B symbols (from + i) = rw w (row-in-block B symbols (from + i) (rw e (rate-fits F v b).1) h) in
    row ∙ rw e (sym (found-in-block F b symbols (from + i) v (rw e at h)))

-- a row has as many bits as the block has columns
pub row_lt : (columns : ℕ) (g : List (List Bool)) (i : ℕ) → codeword_of_grid columns g i < 2 ^ columns
unfolding codeword_of_grid
row_lt columns g i = number_lt columns _ (λ j. as_bit-lt (cell g i j))

-- block 0 is as blocks are
pub first_fits : (sf : ℕ) → 7 ≤ sf → sf ≤ 12 → Fits (first_block sf)
unfolding first_block rows_of_first
first_fits sf low high =
    record { rows-low = omega arith; rows-high = omega arith; rate-low = omega arith; rate-high = omega arith; codeword-high = omega arith; symbol_high = omega arith }
