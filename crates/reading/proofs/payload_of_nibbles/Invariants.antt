-- The bytes of the nibbles in order: a loop over the bytes.
use Rattle.bits.proofs.Fill.{Filled}
use Rattle.reading.specs.Payload.{byte_of_nibbles}
use Rattle.reading.specs.Stages.{listed}
use Rattle.reading.proofs.payload_of_nibbles.Given as goal

abbrev pub invariant-loop-p : goal.invariant-loop-p
invariant-loop-p l = Filled (byte_of_nibbles l.header (listed l.nibbles)) l.initial.byte-items l.p l.byte-items
