-- Column j is that of word j.
use mathlib.Core.Path.{sym, ◌∙◌}
use Prim.Native.Nat.{ℕ}
use native.Mathlib.Omega.{arith}
use Rattle.bits.specs.Tab.{blank}
use Rattle.bits.proofs.Made.{made-tab}
use Rattle.bits.proofs.Tabs.{length-blank, over-all}
use Rattle.block.proofs.GridLoop.{column_of_words}
use borrow.Author.Rules.{rules}
use Rattle.block.proofs.columns_of_words.Goals as goal

pub returns : goal.returns
unfolding column_of_words
returns c =
    made-tab {f = column_of_words c.args.n c.args.words} (record { gives = λ i y d h call. search rules }) c.from_fn.ensures.items
    ∙ sym (over-all 8 _ (blank 8 0) (omega (arith, length-blank {A = ℕ} 8 0)))
