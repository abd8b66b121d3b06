-- `put_hex` writes the digits of every byte. The loop's invariant: those of the bytes so far are written.
-- Assumes nothing.
use lib.ListN.{take}
use Rattle.line.specs.Line.{hex}
use Rattle.put.specs.Put.{Put}
use Rattle.line.proofs.put_hex.Given as goal

abbrev pub invariant-loop-b : goal.invariant-loop-b
invariant-loop-b l = Put l.at (hex (take l.b-index l.payload)) l.initial.out l.out l.next
