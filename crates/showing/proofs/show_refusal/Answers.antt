-- `show_refusal` writes its line out.
-- Assumes nothing.
use Rattle.showing.proofs.AlongLaws.{put-printing}
use Rattle.showing.proofs.show_refusal.Goals as goal

pub returns : goal.returns
returns c = rw c.from.ensures at (put-printing c.put_no-n.ensures c.write.ensures)
