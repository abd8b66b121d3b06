use mathlib.Core.Path.{sym, ◌∙◌}
use Prim.Native.Nat.{ℕ}
use native.Mathlib.Omega.{arith}
use Rattle.bits.specs.Tab.{blank}
use Rattle.bits.proofs.Made.{made-tab}
use Rattle.bits.proofs.Tabs.{length-blank, over-all}
use Rattle.block.proofs.GridLoop.{longer}
use borrow.Author.Rules.{rules}
use Rattle.block.proofs.with_row.Goals as goal

pub returns : goal.returns
unfolding longer
returns c =
    made-tab {f = longer c.args.columns c.args.row.now} (record { gives = λ i y d h call. search rules }) c.from_fn.ensures.items
    ∙ sym (over-all 8 _ (blank 8 0) (omega (arith, length-blank {A = ℕ} 8 0)))
