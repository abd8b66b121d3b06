-- `refused_good` judges row after row, each alone.
-- Assumes nothing.
use mathlib.Core.Path.{refl, ◌∙◌}
use native.Mathlib.Omega.{arith}
use borrow.Author.Rules.{rules}
use Rattle.bits.specs.Tab.{tab}
use Rattle.std.proofs.lemmas.Iterator.{YieldsList-from_range}
use Rattle.std.proofs.lemmas.Iterator.Search.{all_from_yields_List}
use Rattle.day.specs.Day.{refused_frame}
use Rattle.day_write.specs.Write.{refused_row}
use Rattle.day_write.proofs.JudgingLaws.{refused-alone, all-each}
use Rattle.day_write.proofs.judging.refused_good.Goals as goal

pub returns : goal.returns
returns c =
    let row = refused_row c.args.refused.now in
    let good = (refused_frame c.args.settings).good in
    all_from_yields_List (λ i. good (tab i row) (row i)) _ _ c.all.result c.all.ensures.ran (YieldsList-from_range 0 _ _ refl (omega arith)) (λ x b q k. search (rules, refused-alone))
    ∙ all-each good row _
