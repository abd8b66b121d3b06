-- A frame's nibbles are nibbles, and its symbols are those of its blocks.
-- Assumes nothing.
use mathlib.Core.Path.{◌≡◌, ap}
use mathlib.Core.Bool.{Bool, true, false, cond}
use mathlib.Core.List.{List}
use Prim.Native.Nat.{ℕ, zero, suc, ◌+◌, ◌-◌, ◌/◌, ◌%◌, ◌^◌, ◌≤◌, ◌<◌}
use native.Mathlib.Nat.{lt_of_lt_of_le}
use native.Mathlib.Omega.{arith}
use lib.Bits.{xor_lt}
use lib.Dec.{ltb, eqb}
use lib.ListN.{length, get_or}
use lib.Pow.{pow_mono}
use Rattle.bits.specs.Tab.{Bytes}
use Rattle.block.specs.Block.{symbol_of_codewords}
use Rattle.block.specs.Gray.{value_of_word, number_of_value}
use Rattle.block.proofs.BlockLaws.{symbol-lt, word-through-grid}
use Rattle.checksum.specs.Checksum.{checksum}
use Rattle.checksum.proofs.ChecksumLaws.{checksum-lt}
use Rattle.layout.specs.declared.Block.{Block}
use Rattle.layout.specs.declared.Frame.{Frame}
use Rattle.layout.specs.Layout.{rows_of_first, rows_of_later, first_block, block_of, block_of_symbol, data_nibbles}
use Rattle.layout.specs.Ranges.{Valid}
use Rattle.layout.proofs.LayoutLaws.{symbol-in}
use Rattle.whitening.specs.Whitening.{whitening}
use Rattle.whitening.proofs.WhiteningLaws.{whitening-lt}
use Rattle.coding.specs.Nibbles.{data_byte, half_of, nibble_of_bytes, data_nibble, body_nibble, nibble_with, frame_nibble}
use Rattle.coding.specs.Ranges.{Sendable}
use Rattle.coding.specs.Symbols.{codeword_in_block, symbol_in_block, symbol_at}
use Rattle.coding.specs.Stages.{grid_of_nibbles, symbol_of_column}

-- a choice between two numbers below n is below n
cond-lt : (t : Bool) {a b n : ℕ} → a < n → b < n → cond t a b < n
cond-lt true h k = h
cond-lt false h k = k

-- a byte behind the header is a byte
data-byte-lt : (payload : List ℕ) (checksum p : ℕ) → Bytes payload → checksum < 65536 → data_byte payload checksum p < 256
unfolding data_byte
data-byte-lt payload checksum p bytes h =
    cond-lt (ltb p (length payload)) (xor_lt 8 (get_or payload p 0) (whitening p) (bytes p) (whitening-lt p))
    (cond-lt (eqb p (length payload)) (omega arith) (omega arith))

-- half a byte is a nibble
half_lt : (byte i : ℕ) → byte < 256 → half_of byte i < 16
unfolding half_of
half_lt byte i h = cond-lt (eqb (i % 2) 0) (omega arith) (omega arith)

-- a nibble behind the header is a nibble
body-nibble-lt : (payload : List ℕ) (checksum : ℕ) (flag : Bool) (i : ℕ) → Bytes payload → checksum < 65536 → body_nibble payload checksum flag i < 16
unfolding body_nibble data_nibble nibble_of_bytes
body-nibble-lt payload checksum flag i bytes h =
    cond-lt (ltb i (data_nibbles (length payload) flag)) (half_lt _ i (data-byte-lt payload checksum (i / 2) bytes h)) (omega arith)

-- a frame's nibble is a nibble
pub nibble-lt : {F : Frame} (header payload : List ℕ) (checksum : ℕ) (flag : Bool) (i : ℕ) → Sendable F header payload → Bytes payload → checksum < 65536
    → nibble_with header payload checksum flag i < 16
unfolding nibble_with
nibble-lt header payload checksum flag i s bytes h =
    cond-lt (ltb i (length header)) (s.nibbles i) (body-nibble-lt payload checksum flag (i - length header) bytes h)

-- and so with the payload's own checksum
pub frame-nibble-lt : {F : Frame} (header payload : List ℕ) (flag : Bool) (i : ℕ) → Sendable F header payload → Bytes payload
    → frame_nibble header payload flag i < 16
unfolding frame_nibble
frame-nibble-lt header payload flag i s bytes = nibble-lt header payload (checksum payload) flag i s bytes (checksum-lt payload)

-- the columns of the grid of a block's codewords are its symbols
pub column-is : (B : Block) (nibble : ℕ → ℕ) (g : List (List Bool)) (j : ℕ) → g ≡ grid_of_nibbles B nibble → j < 4 + B.rate
    → symbol_of_column B g j ≡ symbol_in_block B nibble j
unfolding symbol_of_column grid_of_nibbles symbol_in_block symbol_of_codewords
column-is B nibble g j e h =
    rw e (ap (λ (w : ℕ). number_of_value B.spaced (value_of_word B.rows w)) (word-through-grid B.rows (4 + B.rate) (codeword_in_block B nibble) j h))

-- a block's rows, and two bits more at the four-wide spacing, are at most SF
later-wide-rows : (sf : ℕ) (low : Bool) → 7 ≤ sf → cond low (cond low (sf - 2) sf + 2) (cond low (sf - 2) sf) ≤ sf
later-wide-rows sf true h = omega arith
later-wide-rows sf false h = omega arith

wide_rows : (F : Frame) (b : ℕ) → Valid F → cond (block_of F b).spaced ((block_of F b).rows + 2) (block_of F b).rows ≤ F.sf
unfolding block_of first_block rows_of_first rows_of_later
wide_rows F zero v = omega arith
wide_rows F (suc b) v = later-wide-rows F.sf F.low v.sf-low

-- the symbols of a frame with these nibbles
module _ (F : Frame) (nibble : ℕ → ℕ) where
  -- symbol j of block b, as a symbol of the frame
  pub symbol-of-block : (b j : ℕ) → Valid F → j < 4 + (block_of F b).rate
      → symbol_at F nibble ((block_of F b).symbol + j) ≡ symbol_in_block (block_of F b) nibble j
  unfolding symbol_at
  symbol-of-block b j v h =
      let e : (block_of F b).symbol + j - (block_of F b).symbol ≡ j = omega arith in
      rw (symbol-in F v b j (omega arith), e)

  -- a block's symbol is below 2 ^ SF
  symbol-in-block-below : (b j : ℕ) → Valid F → symbol_in_block (block_of F b) nibble j < 2 ^ F.sf
  unfolding symbol_in_block
  symbol-in-block-below b j v =
      let B : Block = block_of F b in
      lt_of_lt_of_le (symbol-lt B.rows B.spaced (codeword_in_block B nibble) j) (pow_mono (wide_rows F b v))

  -- a frame's symbol is below 2 ^ SF
  pub symbol-below : (t : ℕ) → Valid F → symbol_at F nibble t < 2 ^ F.sf
  unfolding symbol_at
  symbol-below t v = symbol-in-block-below (block_of_symbol F t) (t - (block_of F (block_of_symbol F t)).symbol) v
