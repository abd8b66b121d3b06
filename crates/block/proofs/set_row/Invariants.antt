-- Cell j is bit i of column j: a loop over the row's eight cells.
use Rattle.bits.proofs.Fill.{Filled}
use Rattle.block.proofs.GridLoop.{cell_of_columns}
use Rattle.block.proofs.set_row.Given as goal

abbrev pub invariant-loop-j : goal.invariant-loop-j
invariant-loop-j l = Filled (cell_of_columns l.plain l.i) l.initial.cells l.j l.cells
