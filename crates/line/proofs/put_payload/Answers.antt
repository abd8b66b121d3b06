-- `put_payload` writes the last field and the line's end.
-- Assumes nothing.
use Rattle.put.proofs.Puts.{put_on}
use Rattle.line.proofs.put_payload.Goals as goal

pub returns : goal.returns
returns c =
    put_on c.put-after_space.ensures (put_on c.put_shown-after_payload.ensures.0 c.put.ensures)
