-- `frames_good` judges row after row.
-- Assumes nothing.
use mathlib.Core.Path.{refl, ◌∙◌}
use native.Mathlib.Omega.{arith}
use borrow.Author.Rules.{rules}
use Rattle.std.proofs.lemmas.Iterator.{YieldsList-from_range}
use Rattle.std.proofs.lemmas.Iterator.Search.{all_from_yields_List}
use Rattle.day_write.specs.Judging.{row_good}
use Rattle.day_write.proofs.JudgingLaws.{all-rows}
use Rattle.day_write.proofs.judging.frames_good.Goals as goal

pub returns : goal.returns
returns c =
    all_from_yields_List (row_good c.args.settings c.args.frames.now) _ _ c.all.result c.all.ensures.ran (YieldsList-from_range 0 _ _ refl (omega arith)) (λ x b q k. search rules)
    ∙ all-rows _ _ _
