use mathlib.Core.Path.{◌∙◌}
use mathlib.Core.Bool.{false}
use native.Mathlib.Omega.{arith}
use Rattle.bits.specs.Tab.{blank}
use Rattle.bits.proofs.Tabs.{length-blank}
use Rattle.bits.proofs.Fill.{filled_none, filled_more, filled-end}
use Rattle.block.proofs.GridLoop.{row_of_columns, rows-of-columns}
use borrow.Author.Rules.{rules}
use Rattle.block.proofs.grid_of_words.Goals as goal

pub loop-i-init : goal.loop-i-init
unfolding blank
loop-i-init c = filled_none _ _

pub loop-i-preserved : goal.loop-i-preserved
unfolding row_of_columns
loop-i-preserved c = filled_more c.loop-i.invariant (omega (arith, length-blank 12 (blank 8 false))) c.set_row.ensures

pub returns : goal.returns
returns c =
    filled-end c.loop-i.invariant (search rules) ∙ rows-of-columns _ _ (omega arith) c.columns_of_words-plain.ensures
