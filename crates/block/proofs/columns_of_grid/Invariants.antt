-- Each column gains a bit at the bottom: a loop down from the last row.
use Rattle.block.proofs.GridLoop.{Gathered}
use Rattle.block.proofs.columns_of_grid.Given as goal

abbrev pub invariant-loop-row : goal.invariant-loop-row
invariant-loop-row l = Gathered l.n l.fn.g l.row-iterator.iter.rest.now l.columns
