-- `put_beside` writes the lines of what is counted beside the tally.
-- Assumes nothing.
use Rattle.put.proofs.Puts.{put_on}
use Rattle.panel.specs.Panel.{beside_lines}
use Rattle.panel.proofs.put_beside.Goals as goal

pub returns : goal.returns
unfolding beside_lines
returns c = put_on c.put_line-after_14.ensures.0 c.put_line.ensures.0
