-- The settings stand behind the first byte and their count.
-- Assumes nothing.
use borrow.Author.Rules.{rules}
use Rattle.day.proofs.DayLaws.{setting-lawful}
use Rattle.day.proofs.SectionLaws.{section-numbered, settings-many}
use Rattle.day.proofs.sections.settings_part.Goals as goal

pub returns : goal.returns
returns c = section-numbered _ setting-lawful _ _ _ (λ n r s. settings-many _ _ (λ at r call. search rules) n r s) _ c.section.ensures
