-- Symbol j is made of word j of the grid: a loop over the block's symbols.
use Rattle.bits.proofs.Fill.{Filled}
use Rattle.coding.specs.Stages.{symbol_of_column}
use Rattle.coding.proofs.write_block.Given as goal

abbrev pub invariant-loop-j : goal.invariant-loop-j
invariant-loop-j l = Filled (symbol_of_column l.b l.fn.g) l.initial.symbol-items l.j l.symbol-items
