-- `put_three` writes three fields and the line's end.
-- Assumes nothing.
use Rattle.put.proofs.Puts.{put_on}
use Rattle.show.proofs.put_three.Goals as goal

pub returns : goal.returns
returns c =
    put_on c.put_field-after_a.ensures.0 c.put_two.ensures
