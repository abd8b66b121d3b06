-- `payload_at` cuts the payload out of the file, where a frame stands.
-- Assumes nothing.
use mathlib.Core.Path.{sym, ap, ◌∙◌}
use borrow.Author.Rules.{rules}
use Rattle.std.specs.Prelude.{Ok}
use Rattle.day.proofs.WalkLaws.{shown-lies}
use Rattle.day_walk.proofs.payload_at.Goals as goal

pub slice_bounds-result-count : goal.slice_bounds-result-count
slice_bounds-result-count c = let (low, high) = shown-lies _ _ _ _ _ _ _ _ _ (sym c.entry_at.ensures ∙ c.in-Ok-Frame.is ∙ ap Ok c.in-Ok-Frame.field-0-is) in low

pub slice_bounds-result-start : goal.slice_bounds-result-start
slice_bounds-result-start c = let (low, high) = shown-lies _ _ _ _ _ _ _ _ _ (sym c.entry_at.ensures ∙ c.in-Ok-Frame.is ∙ ap Ok c.in-Ok-Frame.field-0-is) in search rules

pub slice_bounds-result-end : goal.slice_bounds-result-end
slice_bounds-result-end c = let (low, high) = shown-lies _ _ _ _ _ _ _ _ _ (sym c.entry_at.ensures ∙ c.in-Ok-Frame.is ∙ ap Ok c.in-Ok-Frame.field-0-is) in search rules
