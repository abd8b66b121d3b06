-- `in_refused` reads a refused frame, or stands at the end.
-- Assumes nothing.
use Rattle.day.proofs.ReaderLaws.{handed}
use Rattle.day.proofs.StepLaws.{some, none-refused, refused-here, no-refused}
use Rattle.day.proofs.walking.in_refused.Goals as goal

pub returns-then-left-eq0 : goal.returns-then-left-eq0
returns-then-left-eq0 c = none-refused _ _ _ _ _ c.if-left-eq0.true c.end_at.ensures

pub returns-in_err-refused : goal.returns-in_err-refused
returns-in_err-refused c = rw (handed _ c.from_residual.ensures.1) (no-refused _ _ _ _ _ c.if-left-eq0.false c.in_err-refused.ensures)

pub returns : goal.returns
returns c = refused-here _ _ _ _ _ _ (some _ c.if-left-eq0.false) c.in_ok-refused.ensures
