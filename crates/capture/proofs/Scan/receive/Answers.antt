-- `receive` makes the call.
-- Assumes nothing.
use Rattle.capture.proofs.CallLaws.{call-heard}
use Rattle.capture.proofs.Scan.receive.Goals as goal

pub returns : goal.returns
returns c = call-heard _ c.in-Some.ensures c.read.ensures
