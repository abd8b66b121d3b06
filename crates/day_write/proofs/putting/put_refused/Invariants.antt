-- `put_refused` writes the refused frames. The loop's invariant: those before the place i are written behind the count.
-- Assumes nothing.
use Prim.Native.Nat.{◌≤◌, ◌-◌}
use Rattle.bits.specs.Tab.{tab}
use Rattle.day.specs.Script.{put_each}
use Rattle.day.specs.Day.{refused_frame}
use Rattle.put.specs.Put.{Put}
use Rattle.day_write.specs.Write.{refused_row}
use Rattle.day_write.proofs.putting.put_refused.Given as goal

abbrev pub invariant-loop-i : goal.invariant-loop-i
invariant-loop-i l = (l.i ≤ l.count) × Put l.initial.next (put_each (refused_frame 255).put (tab l.i (refused_row l.refused))) l.initial.out l.out l.next

abbrev pub decreases-loop-i : goal.decreases-loop-i
decreases-loop-i l = l.count - l.i
