-- `hear` reads the capture and writes nothing.
-- Assumes nothing.
use Rattle.bits.specs.Tab.{blank}
use Rattle.capture.specs.Scan.{outcome_at, taken}
use Rattle.capture.proofs.CallLaws.{heard-line}
use Rattle.capture.proofs.Scan.hear.Goals as goal

pub returns : goal.returns
unfolding blank outcome_at taken
returns c = rw (← c.finish.ensures) (heard-line c.receive.ensures).2
