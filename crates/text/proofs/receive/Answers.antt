-- `receive` reads a frame with SF narrowed to a byte.
-- Assumes nothing.
use Rattle.text.proofs.AnswerLaws.{narrowed-read}
use Rattle.text.proofs.receive.Goals as goal

pub returns : goal.returns
returns c = rw c.in-Some.is (record { read = narrowed-read c.in-Some.frame.sf c.narrow.ensures c.read.ensures })
