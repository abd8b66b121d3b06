-- `put_two` writes two fields and the line's end.
-- Assumes nothing.
use Rattle.put.proofs.Puts.{put_on}
use Rattle.show.proofs.put_two.Goals as goal

pub returns : goal.returns
returns c =
    put_on c.put_field-after_a.ensures.0 (put_on c.put_field-after_b.ensures.0 c.put.ensures)
