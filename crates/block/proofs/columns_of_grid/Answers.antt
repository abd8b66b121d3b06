use mathlib.Core.Path.{◌∙◌}
use native.Mathlib.Omega.{arith}
use Rattle.bits.specs.Tab.{blank}
use Rattle.block.proofs.GridLoop.{column-lt, longer, columns-all, gathered-none, gathered-more}
use borrow.Author.Rules.{rules}
use Rattle.block.proofs.columns_of_grid.Goals as goal

pub loop-row-init : goal.loop-row-init
unfolding blank
loop-row-init c = gathered-none c.args.n c.args.g (search rules) (omega arith)

pub with_row-longer-requires : goal.with_row-longer-requires
with_row-longer-requires c = λ j h. column-lt c.args.n c.args.g _ j (omega arith) h c.loop-row.invariant.are

pub loop-row-preserved : goal.loop-row-preserved
unfolding longer
loop-row-preserved c = gathered-more c.in-Some.row.now c.loop-row.invariant c.in-Some.ensures.steps c.with_row-longer.ensures

pub returns : goal.returns
returns c = c.loop-row.invariant.are ∙ columns-all _ _ _ (c.in-None.ensures.steps.0)
