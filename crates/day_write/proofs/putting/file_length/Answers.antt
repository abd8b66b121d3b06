-- `file_length` adds up what the parts are long.
-- Assumes nothing.
use mathlib.Core.Path.{sym}
use native.Mathlib.Omega.{arith}
use Rattle.day_write.proofs.RowLaws.{Fit, fit, frames-count, refused-count}
use Rattle.day_write.proofs.PutLaws.{bytes-in-all}
use Rattle.day_write.proofs.putting.file_length.Goals.{Start}
use Rattle.day_write.proofs.putting.file_length.Goals as goal

-- what the rows' tests come to
abbrev fits : (c : Start) → Fit c.args.rows.settings.now c.args.rows.frames.now c.args.rows.payloads.now c.args.rows.refused.now
fits c = fit _ _ _ _ c.requires.0 c.requires.1

pub overflow_add-result-3 : goal.overflow_add-result-3
overflow_add-result-3 c = omega (arith, (fits c).settings, frames-count _ _ (fits c).frames)

pub overflow_add-result-4 : goal.overflow_add-result-4
overflow_add-result-4 c = omega (arith, (fits c).settings, frames-count _ _ (fits c).frames, refused-count _ (fits c).refused)

pub returns : goal.returns
returns c = sym (bytes-in-all _ _ _ _ (fits c))
