-- Codeword i is the bits of row i, cut to the block's columns.
use Rattle.block.proofs.GridLoop.{codeword-cut}
use borrow.Author.Rules.{rules}
use Rattle.block.proofs.codeword_of_grid.Goals as goal

pub returns : goal.returns
returns c = codeword-cut _ _ _ (search rules) c.codeword_of_row.ensures c.low_bits.ensures
