-- `check` reads the first byte and the three sections, and then has to stand at the file's end.
-- Assumes nothing.
use native.Mathlib.Omega.{arith}
use Rattle.day.proofs.ReaderLaws.{handed}
use Rattle.day.proofs.CheckLaws.{no-mark, stops-1, stops-2, stops-3, left_over, all-taken}
use Rattle.day.proofs.check.Goals as goal

pub returns-in_err-field : goal.returns-in_err-field
returns-in_err-field c = rw (handed _ c.from_residual.ensures.1) (no-mark _ _ c.in_err-field.ensures.value)

pub returns-in_err-settings : goal.returns-in_err-settings
returns-in_err-settings c = rw (handed _ c.from_residual-in_err-settings.ensures.1) (stops-1 _ c.in_ok-field.ensures.value _ c.in_err-settings.ensures)

pub returns-in_err-frames : goal.returns-in_err-frames
returns-in_err-frames c = rw (handed _ c.from_residual-in_err-frames.ensures.1) (stops-2 _ c.in_ok-field.ensures.value c.in_ok-settings.ensures _ c.in_err-frames.ensures)

pub returns-in_err-refused : goal.returns-in_err-refused
returns-in_err-refused c =
    rw (handed _ c.from_residual-in_err-refused.ensures.1) (stops-3 _ c.in_ok-field.ensures.value c.in_ok-settings.ensures c.in_ok-frames.ensures _ c.in_err-refused.ensures)

pub returns-then-refused-bytes : goal.returns-then-refused-bytes
returns-then-refused-bytes c =
    left_over _ c.in_ok-field.ensures.value c.in_ok-settings.ensures c.in_ok-frames.ensures c.in_ok-refused.ensures (λ e. omega (arith, c.if-refused-bytes.true, e))

pub returns : goal.returns
returns c = all-taken _ c.in_ok-field.ensures.value c.in_ok-settings.ensures c.in_ok-frames.ensures c.in_ok-refused.ensures (omega (arith, c.if-refused-bytes.false))
