-- `show_part` hands over the lines that `fill` has put.
-- Assumes nothing.
use Rattle.showing.proofs.AlongLaws.{passed}
use Rattle.showing.proofs.show_part.Goals as goal

pub returns : goal.returns
returns c = passed c.fill-part.ensures c.write.ensures
