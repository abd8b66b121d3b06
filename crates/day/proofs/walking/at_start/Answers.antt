-- `at_start` reads the first byte and the count of settings.
-- Assumes nothing.
use Rattle.day.proofs.ReaderLaws.{handed}
use Rattle.day.proofs.StepLaws.{no-mark, no-settings-count, marked-here}
use Rattle.day.proofs.walking.at_start.Goals as goal

pub returns-in_err-field : goal.returns-in_err-field
returns-in_err-field c = rw (handed _ c.from_residual.ensures.1) (no-mark _ _ _ c.in_err-field.ensures.value)

pub returns-in_err-count : goal.returns-in_err-count
returns-in_err-count c = rw (handed _ c.from_residual-in_err-count.ensures.1) (no-settings-count _ _ c.in_ok-field.ensures.value _ c.in_err-count.ensures.value)

pub returns : goal.returns
returns c = marked-here _ _ c.in_ok-field.ensures.value _ _ c.in_ok-count.ensures.value c.in_settings.ensures
