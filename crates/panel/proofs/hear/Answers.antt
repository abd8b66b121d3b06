-- `hear` has the tally note what read said.
-- Assumes nothing.
use Rattle.panel.specs.Counts.{noting}
use Rattle.panel.proofs.hear.Goals as goal

pub returns : goal.returns
unfolding noting
returns c = rw (← c.hearing-said.ensures, c.over_by.ensures, c.refused_by.ensures, c.one_more.ensures, c.unwrap_or.ensures)
