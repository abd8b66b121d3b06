-- The symbols of a frame with given nibbles. Document 01, "Blocks, the diagonal and the Gray step".
-- Assumes nothing.
use Rattle.std.specs.Prelude.{ℕ, ◌+◌, ◌-◌}
use Rattle.block.specs.Block.{symbol_of_codewords}
use Rattle.codeword.specs.Codeword.{codeword}
use Rattle.layout.specs.Layout.{block_of, block_of_symbol}
use Rattle.layout.specs.declared.Block.{Block}
use Rattle.layout.specs.declared.Frame.{Frame}

-- codeword i of a block: that of the frame's nibble of the same number
unfoldable pub codeword_in_block : Block → (ℕ → ℕ) → ℕ → ℕ
codeword_in_block B nibble i = codeword B.rate (nibble (B.codeword + i))

-- symbol j of a block
unfoldable pub symbol_in_block : Block → (ℕ → ℕ) → ℕ → ℕ
symbol_in_block B nibble j = symbol_of_codewords B.rows B.spaced (codeword_in_block B nibble) j

-- symbol t of a frame, found in its block
unfoldable pub symbol_at : Frame → (ℕ → ℕ) → ℕ → ℕ
symbol_at F nibble t =
    let B : Block = block_of F (block_of_symbol F t) in
    symbol_in_block B nibble (t - B.symbol)
