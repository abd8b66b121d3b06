-- What the inner steps of reading hand each other. Nothing here is part of an offered operation's contract.
-- Assumes nothing.
use Rattle.std.specs.Prelude.{Bool, List, ◌≡◌, ℕ, ◌+◌, ◌<◌, eqb, length, get_or}
use Rattle.bits.specs.Bytes.{byte_at, packed}
use Rattle.bits.specs.Search.{first, how_many}
use Rattle.bits.specs.Tab.{over, over_at, blank}
use Rattle.block.specs.Block.{word_of_number}
use Rattle.block.specs.Grid.{grid_of_words, codeword_of_grid}
use Rattle.codeword.specs.Codeword.{read_as, flipped_bit}
use Rattle.codeword.specs.Found.{Found}
use Rattle.layout.specs.declared.Block.{Block}
use Rattle.layout.specs.declared.Frame.{Frame}
use Rattle.layout.specs.Layout.{rows_of_first}
use Rattle.reading.specs.Found.{found_at, unreadable_at, repaired_at, nibble_at, hurt_at}

-- the symbol word received in column j of a block
unfoldable pub symbol_word : Block → List ℕ → ℕ → ℕ
symbol_word B symbols j = word_of_number B.rows B.spaced (get_or symbols (B.symbol + j) 0)

-- the grid of a block's symbol words
unfoldable pub grid_of_symbols : Block → List ℕ → List (List Bool)
grid_of_symbols B symbols = grid_of_words B.rows (over (4 + B.rate) (symbol_word B symbols) (blank 8 0))

-- what row i of a grid is read as, and what its rows from a given one on are
unfoldable pub read_row : ℕ → List (List Bool) → ℕ → Found
read_row rate g i = read_as rate (codeword_of_grid (4 + rate) g i)

unfoldable pub rows_from : ℕ → List (List Bool) → ℕ → ℕ → Found
rows_from rate g from i = read_row rate g (from + i)

-- what codeword i of the data, which stand behind the header, is read as, and of those behind block 0
unfoldable pub data_found : Frame → List ℕ → ℕ → Found
data_found F symbols i = found_at F symbols (F.header + i)

unfoldable pub later_found : Frame → List ℕ → ℕ → Found
later_found F symbols i = found_at F symbols (rows_of_first F.sf + i)

-- n codewords read in order: the first that can't be read (or n), the repairs before it, and the nibbles before it,
-- which stand from the place at on
pub record Walk (found : ℕ → Found) (n at : ℕ) (old new : List ℕ) (end repairs : ℕ) : Type 0 where
  pub ends : end ≡ first (unreadable_at found) n 0
  pub counts : repairs ≡ how_many (repaired_at found) end
  pub cells : new ≡ over_at at end (nibble_at found) old

-- the nibbles of a list
unfoldable pub listed : List ℕ → ℕ → ℕ
listed l i = get_or l i 0

-- how often each bit is flipped in the first n codewords of a block, as a number with a byte for each bit
unfoldable pub flips : (ℕ → Found) → ℕ → ℕ
flips found n = packed 8 (λ j. how_many (λ i. eqb (flipped_bit (found i)) j) n)

-- the bytes of such a number
unfoldable pub bytes_of : ℕ → ℕ → ℕ
bytes_of n j = byte_at j n

-- of 832 cells each below the end tells how many of the first n codewords are repaired in its symbol
pub record Marked (F : Frame) (symbols : List ℕ) (n end : ℕ) (hurts : List ℕ) : Type 0 where
  pub long : length hurts ≡ 832
  pub cells : (t : ℕ) → t < end → get_or hurts t 0 ≡ hurt_at F symbols n t
