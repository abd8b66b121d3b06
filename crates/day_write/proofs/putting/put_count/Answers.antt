-- `put_count` writes a count of one byte.
-- Assumes nothing.
use Rattle.day.specs.Day.{put_count}
use Rattle.day_write.proofs.putting.put_count.Goals as goal

pub returns : goal.returns
unfolding put_count
returns c = c.put.ensures
