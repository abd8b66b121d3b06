-- The constant's entries are the steps by the definition: compared all at once.
-- Assumes nothing.
use mathlib.Core.Path.{refl}
use Rattle.bits.specs.Bytes.{packed, step_of}
use Rattle.bits.specs.Tab.{tab}
use Rattle.codeword.specs.Readings.{step_table}
use Rattle.codeword.proofs.steps.Goals as goal

pub returns : goal.returns
unfolding tab step_table step_of packed
returns c = refl
