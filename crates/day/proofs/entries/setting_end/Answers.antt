-- The place behind what was seen.
-- Assumes nothing.
use Rattle.day.proofs.ReaderLaws.{handed}
use Rattle.day.proofs.SeenLaws.{setting-end, setting-none}
use Rattle.day.proofs.entries.setting_end.Goals as goal

pub returns-in_err-setting : goal.returns-in_err-setting
returns-in_err-setting c = rw (handed _ c.from_residual.ensures.1) (setting-none _ _ c.in_err-setting.ensures)

pub returns : goal.returns
returns c = setting-end _ _ c.in_ok-setting.ensures
