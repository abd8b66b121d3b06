-- `in_frames` reads a frame, or the count of refused frames.
-- Assumes nothing.
use Rattle.day.proofs.ReaderLaws.{handed}
use Rattle.day.proofs.StepLaws.{some, behind-frames, no-refused-count, frame_here, no-frame}
use Rattle.day.proofs.walking.in_frames.Goals as goal

pub returns-in_err-count : goal.returns-in_err-count
returns-in_err-count c = rw (handed _ c.from_residual.ensures.1) (no-refused-count _ _ _ _ _ c.if-left-eq0.true c.in_err-count.ensures.value)

pub returns-then-left-eq0 : goal.returns-then-left-eq0
returns-then-left-eq0 c = behind-frames _ _ _ _ _ _ c.if-left-eq0.true c.in_ok-count.ensures.value c.in_refused.ensures

pub returns-in_err-frame : goal.returns-in_err-frame
returns-in_err-frame c = rw (handed _ c.from_residual-in_err-frame.ensures.1) (no-frame _ _ _ _ _ c.if-left-eq0.false c.in_err-frame.ensures)

pub returns : goal.returns
returns c = frame_here _ _ _ _ _ _ (some _ c.if-left-eq0.false) c.in_ok-frame.ensures
