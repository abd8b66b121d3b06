-- `print` hands the whole line over.
-- Assumes nothing.
use Rattle.system.proofs.CallLaws.{printing}
use Rattle.lora_read.proofs.print.Goals as goal

pub returns : goal.returns
returns c = let e = c.answer-answer.ensures in printing _ _ e.cells e.long c.write_first.ensures.handed
