-- `put_frames` writes the frames. The loop's invariant: those before the place i are written behind the count, and start is where the
-- next payload starts.
-- Assumes nothing.
use mathlib.Core.Path.{◌≡◌}
use Prim.Native.Nat.{◌≤◌, ◌-◌}
use Rattle.bits.specs.Tab.{tab}
use Rattle.day.specs.Script.{put_each}
use Rattle.day.specs.Day.{frame}
use Rattle.put.specs.Put.{Put}
use Rattle.day_write.specs.Write.{lengths_before, frame_row}
use Rattle.day_write.proofs.putting.put_frames.Given as goal

abbrev pub invariant-loop-i : goal.invariant-loop-i
invariant-loop-i l = (l.i ≤ l.count) × (l.start ≡ lengths_before l.frames l.i) × Put l.initial.next (put_each (frame 255).put (tab l.i (frame_row l.frames l.payloads))) l.initial.out l.out l.next

abbrev pub decreases-loop-i : goal.decreases-loop-i
decreases-loop-i l = l.count - l.i
