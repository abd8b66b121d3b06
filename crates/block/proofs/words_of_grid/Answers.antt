use mathlib.Core.Path.{ap, ◌∙◌}
use mathlib.Core.List.{List, ◌++◌}
use Prim.Native.Nat.{ℕ}
use native.Mathlib.Omega.{arith}
use lib.ListN.{drop}
use Rattle.bits.specs.Tab.{blank}
use Rattle.bits.proofs.Fill.{filled_none, filled_more, filled-whole}
use Rattle.block.proofs.GridLoop.{word_of_columns, word-turned, plain-lt, words-of-columns}
use borrow.Author.Rules.{rules}
use Rattle.block.proofs.words_of_grid.Goals as goal

pub loop-j-init : goal.loop-j-init
unfolding blank
loop-j-init c = filled_none _ _

pub turned_down-requires : goal.turned_down-requires
turned_down-requires c =
    let plain = c.columns_of_grid-plain.ensures in
    (search rules, search rules, plain-lt _ _ _ (search rules) plain)

pub loop-j-preserved : goal.loop-j-preserved
unfolding word_of_columns
loop-j-preserved c =
    let l = c.loop-j in
    filled_more l.invariant (search rules) (word-turned _ l.j _ _ c.around.ensures.0 c.turned_down.ensures)

pub returns : goal.returns
unfolding blank
returns c =
    let n = c.args.columns in
    ap (λ (x : List ℕ). x ++ drop n (blank 8 0)) (filled-whole n c.loop-j.invariant (search rules) (search rules))
    ∙ words-of-columns _ _ _ (omega arith) (omega arith) c.columns_of_grid-plain.ensures
