-- The frames, one behind the other.
-- Assumes nothing.
use borrow.Author.Rules.{rules}
use Rattle.day.proofs.DayLaws.{frame-lawful}
use Rattle.day.proofs.SectionLaws.{section-numbered, frame_same, same-many}
use Rattle.day.proofs.sections.frames_part.Goals as goal

pub returns : goal.returns
returns c = section-numbered _ (frame-lawful c.args.settings) _ _ _ (λ n r s. same-many _ (frame_same _) _ _ (λ at r call. search rules) n _ r s) _ c.section.ensures
