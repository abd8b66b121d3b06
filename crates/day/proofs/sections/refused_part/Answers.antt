-- The refused frames, one behind the other.
-- Assumes nothing.
use borrow.Author.Rules.{rules}
use Rattle.day.proofs.DayLaws.{refused_frame-lawful}
use Rattle.day.proofs.SectionLaws.{section-numbered, refused-same, same-many}
use Rattle.day.proofs.sections.refused_part.Goals as goal

pub returns : goal.returns
returns c = section-numbered _ (refused_frame-lawful c.args.settings) _ _ _ (λ n r s. same-many _ (refused-same _) _ _ (λ at r call. search rules) n _ r s) _ c.section.ensures
