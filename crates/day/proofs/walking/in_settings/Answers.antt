-- `in_settings` reads a setting, or the count of frames.
-- Assumes nothing.
use Rattle.day.proofs.ReaderLaws.{handed}
use Rattle.day.proofs.StepLaws.{some, behind-settings, no-frames-count, setting-here, no-setting}
use Rattle.day.proofs.walking.in_settings.Goals as goal

pub returns-in_err-count : goal.returns-in_err-count
returns-in_err-count c = rw (handed _ c.from_residual.ensures.1) (no-frames-count _ _ _ _ _ _ c.if-left-eq0.true c.in_err-count.ensures.value)

pub returns-then-left-eq0 : goal.returns-then-left-eq0
returns-then-left-eq0 c = behind-settings _ _ _ _ _ _ _ c.if-left-eq0.true c.in_ok-count.ensures.value c.in_frames.ensures

pub returns-in_err-setting : goal.returns-in_err-setting
returns-in_err-setting c = rw (handed _ c.from_residual-in_err-setting.ensures.1) (no-setting _ _ _ _ _ _ c.if-left-eq0.false c.in_err-setting.ensures)

pub returns : goal.returns
returns c = setting-here _ _ _ _ _ _ _ (some _ c.if-left-eq0.false) c.in_ok-setting.ensures
