-- What a frame's codewords are found to be in received symbols. Document 01, "Nibbles and codewords" and "Blocks, the
-- diagonal and the Gray step"; and in which symbols they are repaired, document 02, "Which chirp was hurt".
-- Assumes nothing.
use Rattle.std.specs.Prelude.{Bool, ◌&&◌, List, ℕ, ◌+◌, ◌-◌, eqb, get_or}
use Rattle.bits.specs.Search.{how_many}
use Rattle.block.specs.Block.{received}
use Rattle.codeword.specs.Codeword.{read_as, nibble_of, flipped_bit, is_repaired, is_unreadable}
use Rattle.codeword.specs.Found.{Found}
use Rattle.layout.specs.Layout.{block_of, block_of_codeword}
use Rattle.layout.specs.declared.Block.{Block}
use Rattle.layout.specs.declared.Frame.{Frame}

-- the word received for row i of a block
unfoldable pub word_in_block : Block → List ℕ → ℕ → ℕ
word_in_block B symbols i = received B.rows (4 + B.rate) B.spaced (λ j. get_or symbols (B.symbol + j) 0) i

-- what it is read as
unfoldable pub found_in_block : Block → List ℕ → ℕ → Found
found_in_block B symbols i = read_as B.rate (word_in_block B symbols i)

-- what codeword i of a frame is read as
unfoldable pub found_at : Frame → List ℕ → ℕ → Found
found_at F symbols i =
    let B : Block = block_of F (block_of_codeword F i) in
    found_in_block B symbols (i - B.codeword)

-- whether codeword i can't be read, whether it is repaired, and its nibble
abbrev pub unreadable_at : (ℕ → Found) → ℕ → Bool
unreadable_at found i = is_unreadable (found i)

abbrev pub repaired_at : (ℕ → Found) → ℕ → Bool
repaired_at found i = is_repaired (found i)

abbrev pub nibble_at : (ℕ → Found) → ℕ → ℕ
nibble_at found i = nibble_of (found i)

-- bit j of codeword i stands in symbol first + j, first being its block's first
unfoldable pub symbol_of_bit : Frame → ℕ → ℕ → ℕ
symbol_of_bit F i j = (block_of F (block_of_codeword F i)).symbol + j

-- codeword i is repaired, and the bit that is flipped stands in symbol t
unfoldable pub repaired_in : Frame → List ℕ → ℕ → ℕ → Bool
repaired_in F symbols t i = repaired_at (found_at F symbols) i && eqb (symbol_of_bit F i (flipped_bit (found_at F symbols i))) t

-- how many of the first n codewords are repaired in symbol t
unfoldable pub hurt_at : Frame → List ℕ → ℕ → ℕ → ℕ
hurt_at F symbols n t = how_many (repaired_in F symbols t) n
