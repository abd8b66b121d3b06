-- `is_given` looks at one pair after the other.
-- Assumes nothing.
use mathlib.Core.Path.{refl, ◌∙◌}
use native.Mathlib.Omega.{arith}
use borrow.Author.Rules.{rules}
use Rattle.std.proofs.lemmas.Iterator.{YieldsList-from_range}
use Rattle.std.proofs.lemmas.Iterator.Search.{any_from_yields_List}
use Rattle.day.specs.Day.{is_pair}
use Rattle.day.specs.Stages.{pair_at}
use Rattle.day.proofs.EntryLaws.{any-pair}
use Rattle.day.proofs.entries.is_given.Goals as goal

pub returns : goal.returns
returns c =
    let a = c.args in
    any_from_yields_List (λ k. is_pair a.sf a.low (pair_at a.from a.bytes.now k)) _ _ c.any.result c.any.ensures.ran
    (YieldsList-from_range 0 _ a.j refl (omega arith)) (λ x b q k. search rules)
    ∙ any-pair _ _ _ _
