-- `put_end` writes the last line of a listing.
-- Assumes nothing.
use Rattle.show.specs.Show.{end_line}
use Rattle.put.proofs.Puts.{put_on}
use Rattle.show.proofs.put_end.Goals as goal

pub returns : goal.returns
unfolding end_line
returns c =
    put_on c.put_words-next.ensures c.put_two.ensures
