-- The place behind what was seen.
-- Assumes nothing.
use Rattle.day.proofs.ReaderLaws.{handed}
use Rattle.day.proofs.SeenLaws.{refused-end, refused-none}
use Rattle.day.proofs.entries.refused_end.Goals as goal

pub returns-in_err-refused : goal.returns-in_err-refused
returns-in_err-refused c = rw (handed _ c.from_residual.ensures.1) (refused-none _ _ c.in_err-refused.ensures)

pub returns : goal.returns
returns c = refused-end _ _ c.in_ok-refused.ensures
