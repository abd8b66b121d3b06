-- The constant's entries are those of the rule: compared all at once.
-- Assumes nothing.
use mathlib.Core.Path.{refl}
use Rattle.bits.specs.Bit.{bit}
use Rattle.bits.specs.Tab.{tab}
use Rattle.checksum.specs.Checksum.{divisor, reduced, one_bit, low_bits, one_byte}
use Rattle.checksum.specs.Table.{entry}
use Rattle.checksum.proofs.table.Goals as goal

pub returns : goal.returns
unfolding tab entry one_byte low_bits one_bit reduced divisor bit
returns c = refl
