-- `put_no` writes the line of a refusal.
-- Assumes nothing.
use Rattle.show.specs.Show.{no_line}
use Rattle.put.proofs.Puts.{put_on}
use Rattle.show.proofs.put_no.Goals as goal

pub returns : goal.returns
unfolding no_line
returns c =
    put_on c.put_words-next.ensures c.put_two.ensures
