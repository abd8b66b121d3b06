-- Row i is bit i of each column, none from row n on: a loop over all twelve rows.
use mathlib.Core.Bool.{false}
use Rattle.bits.specs.Tab.{blank}
use Rattle.bits.proofs.Fill.{Filled}
use Rattle.block.proofs.GridLoop.{row_of_columns}
use Rattle.block.proofs.grid_of_words.Given as goal

abbrev pub invariant-loop-i : goal.invariant-loop-i
invariant-loop-i l = Filled (row_of_columns l.plain) (blank 12 (blank 8 false)) l.i l.row-items
