-- `put_refused` writes the line of a refused frame.
-- Assumes nothing.
use Rattle.show.specs.Show.{refused_line}
use Rattle.put.proofs.Puts.{put_on}
use Rattle.show.proofs.put_refused.Goals as goal

pub returns : goal.returns
unfolding refused_line
returns c =
    put_on c.put_words-next.ensures c.put_three.ensures
