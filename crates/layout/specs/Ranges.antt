-- The ranges that the inner steps are asked with. Nothing here is part of an offered operation's contract.
-- Assumes nothing.
use Rattle.std.specs.Prelude.{◌≤◌}
use Rattle.layout.specs.declared.Block.{Block}
use Rattle.layout.specs.declared.Frame.{Frame}

-- a frame as the operations let it through
pub record Valid (F : Frame) : Type 0 where
  pub sf-low : 7 ≤ F.sf
  pub sf-high : F.sf ≤ 12
  pub cr-low : 1 ≤ F.cr
  pub cr-high : F.cr ≤ 4
  pub header-high : F.header ≤ 5

-- a block as blocks are: 5 to 12 rows, CR 1 to 4; the largest frame ends far below 4,096
pub record Fits (B : Block) : Type 0 where
  pub rows-low : 5 ≤ B.rows
  pub rows-high : B.rows ≤ 12
  pub rate-low : 1 ≤ B.rate
  pub rate-high : B.rate ≤ 4
  pub codeword-high : B.codeword ≤ 4096
  pub symbol_high : B.symbol ≤ 4096
