-- `put_bytes` writes the bytes as they are. The loop's invariant: those before the place i are written.
-- Assumes nothing.
use Prim.Native.Nat.{◌+◌}
use lib.ListN.{take}
use Rattle.put.specs.Put.{Put}
use Rattle.day_write.proofs.putting.put_bytes.Given as goal

abbrev pub invariant-loop-i : goal.invariant-loop-i
invariant-loop-i l = Put l.at (take l.i l.bytes) l.initial.out l.out (l.at + l.i)
