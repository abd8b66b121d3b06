-- `nothing` counts no text.
-- Assumes nothing.
use Rattle.panel.specs.Counts.{none}
use Rattle.panel.proofs.nothing.Goals as goal

pub returns : goal.returns
unfolding none
returns c = rw c.none.ensures
