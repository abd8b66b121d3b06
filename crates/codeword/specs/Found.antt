-- What a received word is found to be.
-- Assumes nothing.
use Rattle.std.specs.Prelude.{ℕ}

-- a codeword, and its nibble; a word one bit away from a codeword that is repaired to it, its nibble and the bit that is flipped; or
-- neither
pub data Found : Type 0 where
  taken : ℕ → Found
  repaired : ℕ → ℕ → Found
  unreadable : Found
