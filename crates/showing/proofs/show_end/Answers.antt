-- `show_end` writes its line out.
-- Assumes nothing.
use Rattle.showing.proofs.AlongLaws.{put-printing}
use Rattle.showing.proofs.show_end.Goals as goal

pub returns : goal.returns
returns c = put-printing c.put_end-n.ensures c.write.ensures
