-- Document 01, "Blocks, the diagonal and the Gray step": which codewords and symbols a block has, and how many symbols
-- a frame has. A frame's nibbles are those of its header and its data, one for each codeword; fillers stand behind them.
-- Assumes nothing.
use Rattle.std.specs.Prelude.{Bool, true, ◌&&◌, cond, ℕ, zero, suc, ◌+◌, ◌-◌, ◌*◌, ◌/◌, ltb, leb}
use Rattle.layout.specs.declared.Block.{Block}
use Rattle.layout.specs.declared.Frame.{Frame}

-- SF is 7 to 12, CR 1 to 4
unfoldable pub valid_sf : ℕ → Bool
valid_sf sf = leb 7 sf && leb sf 12

unfoldable pub valid_cr : ℕ → Bool
valid_cr cr = leb 1 cr && leb cr 4

-- the rows of block 0, SF - 2, and of a later block: SF, or SF - 2 at low rate
unfoldable pub rows_of_first : ℕ → ℕ
rows_of_first sf = sf - 2

unfoldable pub rows_of_later : Frame → ℕ
rows_of_later F = cond F.low (F.sf - 2) F.sf

-- block 0 always has rate 4/8 and 8 symbols at the four-wide spacing
unfoldable pub first_block : ℕ → Block
first_block sf = record { rate = 4; rows = rows_of_first sf; spaced = true; codeword = 0; symbol = 0 }

-- later blocks have the frame's CR, CR + 4 symbols, and that spacing exactly at low rate
unfoldable pub block_of : Frame → ℕ → Block
block_of F zero = first_block F.sf
block_of F (suc b) =
    record {
      rate = F.cr;
      rows = rows_of_later F;
      spaced = F.low;
      codeword = rows_of_first F.sf + rows_of_later F * b;
      symbol = 8 + (F.cr + 4) * b;
    }

-- codewords are numbered through the frame from 0, block after block: the block of codeword i
unfoldable pub block_of_codeword : Frame → ℕ → ℕ
block_of_codeword F i = cond (ltb i (rows_of_first F.sf)) 0 (suc ((i - rows_of_first F.sf) / rows_of_later F))

-- the block of symbol t
unfoldable pub block_of_symbol : Frame → ℕ → ℕ
block_of_symbol F t = cond (ltb t 8) 0 (suc ((t - 8) / (F.cr + 4)))

-- data nibbles are 2 x length, plus 4 with the checksum
unfoldable pub data_nibbles : ℕ → Bool → ℕ
data_nibbles len flag = 2 * len + cond flag 4 0

-- the nibbles of a frame with a payload of len bytes: the header's and the data
unfoldable pub nibbles_of : Frame → ℕ → ℕ
nibbles_of F len = F.header + data_nibbles len F.checked

-- R, the nibbles that remain after block 0
unfoldable pub remaining : Frame → ℕ → ℕ
remaining F nibbles = nibbles - rows_of_first F.sf

-- R/N rounded up
unfoldable pub later_blocks : Frame → ℕ → ℕ
later_blocks F nibbles = (remaining F nibbles + (rows_of_later F - 1)) / rows_of_later F

-- the frame has 8 + (CR + 4) x R/N symbols
unfoldable pub symbol_count : Frame → ℕ → ℕ
symbol_count F nibbles = 8 + (F.cr + 4) * later_blocks F nibbles

unfoldable pub symbols_of : Frame → ℕ → ℕ
symbols_of F len = symbol_count F (nibbles_of F len)
