-- `judge` finds a file whole that was read back as it was written.
-- Assumes nothing.
use mathlib.Core.Path.{sym, ◌∙◌}
use borrow.Author.Rules.{rules}
use Rattle.day_keep.proofs.CheckLaws.{taken-day}
use Rattle.day_keep.proofs.storing.judge.Goals as goal

pub returns-in-Ok : goal.returns-in-Ok
returns-in-Ok c = (search rules, taken-day _ _ (sym c.check.ensures ∙ c.in-Ok.is))
