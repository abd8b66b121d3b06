-- `put_panel` writes the panel part by part.
-- Assumes nothing.
use Rattle.put.proofs.Puts.{put_on}
use Rattle.panel.specs.Panel.{panel_of}
use Rattle.panel.proofs.put_panel.Goals as goal

pub returns : goal.returns
unfolding panel_of
returns c = put_on c.put_accepted-after_accepted.ensures.0 (put_on c.put_refused-after_refused.ensures.0 c.put_beside.ensures)
