-- Row i is the row of the code of nibble i, and blank outside the block: a loop over the 12 rows.
use mathlib.Core.Bool.{false}
use Rattle.bits.specs.Tab.{blank}
use Rattle.bits.proofs.Fill.{Filled}
use Rattle.coding.proofs.CodingLoop.{row_from}
use Rattle.coding.proofs.grid_of_block.Given as goal

abbrev pub invariant-loop-i : goal.invariant-loop-i
invariant-loop-i l = Filled (row_from l.line l.first l.n l.nibbles) (blank 12 (blank 8 false)) l.i l.row-items
