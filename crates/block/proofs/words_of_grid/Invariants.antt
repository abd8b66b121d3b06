-- Word j is column j turned: a loop over the columns.
use Rattle.bits.proofs.Fill.{Filled}
use Rattle.block.proofs.GridLoop.{word_of_columns}
use Rattle.block.proofs.words_of_grid.Given as goal

abbrev pub invariant-loop-j : goal.invariant-loop-j
invariant-loop-j l = Filled (word_of_columns l.n l.plain) l.initial.word-items l.j l.word-items
