-- The place behind what was seen.
-- Assumes nothing.
use Rattle.day.proofs.ReaderLaws.{handed}
use Rattle.day.proofs.SeenLaws.{frame-end, frame-none}
use Rattle.day.proofs.entries.frame_end.Goals as goal

pub returns-in_err-frame : goal.returns-in_err-frame
returns-in_err-frame c = rw (handed _ c.from_residual.ensures.1) (frame-none _ _ c.in_err-frame.ensures)

pub returns : goal.returns
returns c = frame-end _ _ c.in_ok-frame.ensures
