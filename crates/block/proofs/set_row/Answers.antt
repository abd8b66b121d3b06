use mathlib.Core.Path.{refl, sym, ◌∙◌}
use mathlib.Core.Bool.{false}
use native.Mathlib.Omega.{arith}
use Rattle.bits.specs.Bit.{bit}
use Rattle.bits.specs.Tab.{blank}
use Rattle.bits.proofs.Tabs.{length-blank, over-all}
use Rattle.bits.proofs.Fill.{filled_none, filled_more, filled-end}
use Rattle.block.specs.Grid.{row}
use Rattle.block.proofs.GridLoop.{cell_of_columns}
use borrow.Author.Rules.{rules}
use Rattle.block.proofs.set_row.Goals as goal

pub loop-j-init : goal.loop-j-init
loop-j-init c = filled_none _ _

pub loop-j-preserved : goal.loop-j-preserved
unfolding cell_of_columns bit
loop-j-preserved c = filled_more c.loop-j.invariant (search rules) refl

pub returns : goal.returns
unfolding row cell_of_columns
returns c =
    filled-end c.loop-j.invariant (search rules) ∙ over-all 8 _ c.args.cells.now (omega arith) ∙ sym (over-all 8 _ (blank 8 false) (omega (arith, length-blank 8 false)))
