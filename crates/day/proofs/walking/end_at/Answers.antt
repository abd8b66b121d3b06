-- `end_at` compares the place with the file's length.
-- Assumes nothing.
use Rattle.day.proofs.StepLaws.{at-end, left_over}
use Rattle.day.proofs.walking.end_at.Goals as goal

pub returns-then-at-bytes : goal.returns-then-at-bytes
returns-then-at-bytes c = left_over _ _ c.if-at-bytes.true

pub returns : goal.returns
returns c = at-end _ _ c.if-at-bytes.false
