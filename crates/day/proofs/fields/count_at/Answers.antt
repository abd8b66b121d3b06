-- A count is any byte.
-- Assumes nothing.
use mathlib.Core.Path.{◌∙◌}
use Rattle.day.proofs.ReaderLaws.{handed-reads, count-reads}
use Rattle.day.proofs.fields.count_at.Goals as goal

pub returns-in_err-count-clause-value : goal.returns-in_err-count-clause-value
returns-in_err-count-clause-value c = handed-reads c.from_residual.result _ _ _ _ c.from_residual.ensures.1 (count-reads _ _ ∙ c.in_err-count.ensures.value)

pub returns-clause-value : goal.returns-clause-value
returns-clause-value c = rw c.from.ensures (count-reads _ _ ∙ c.in_ok-count.ensures.value)
