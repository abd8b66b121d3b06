-- `put_hurts` writes the symbols' entries. The loop's invariant: those of the symbols before i are written.
-- Assumes nothing.
use Prim.Native.Nat.{◌≤◌, ◌+◌, ◌*◌}
use lib.ListN.{take}
use Rattle.put.specs.Put.{Put}
use Rattle.hurt.specs.Hurt.{entries_from}
use Rattle.hurt.proofs.put_hurts.Given as goal

abbrev pub invariant-loop-i : goal.invariant-loop-i
invariant-loop-i l = (l.next ≤ l.at + 8 * l.i) × Put l.at (entries_from 0 (take l.i l.hurts)) l.initial.out l.out l.next
