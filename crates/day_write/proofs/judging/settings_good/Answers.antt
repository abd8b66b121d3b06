-- `settings_good` judges each setting in the light of those before it.
-- Assumes nothing.
use mathlib.Core.Path.{refl, ◌∙◌}
use native.Mathlib.Omega.{arith}
use borrow.Author.Rules.{rules}
use Rattle.bits.specs.Tab.{tab}
use Rattle.std.proofs.lemmas.Iterator.{YieldsList-from_range}
use Rattle.std.proofs.lemmas.Iterator.Search.{all_from_yields_List}
use Rattle.day.specs.Day.{setting}
use Rattle.day.specs.Stages.{pair_at}
use Rattle.day_write.proofs.JudgingLaws.{all-each}
use Rattle.day_write.proofs.judging.settings_good.Goals as goal

pub returns : goal.returns
returns c =
    let row = pair_at 0 c.args.settings.now in
    all_from_yields_List (λ i. setting.good (tab i row) (row i)) _ _ c.all.result c.all.ensures.ran (YieldsList-from_range 0 _ _ refl (omega arith)) (λ x b q k. search rules)
    ∙ all-each setting.good row _
