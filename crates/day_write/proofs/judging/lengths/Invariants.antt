-- `lengths` adds the lengths up; 255 of them stay below 2 ^ 24.
-- Assumes nothing.
use mathlib.Core.Path.{◌≡◌}
use Prim.Native.Nat.{◌-◌, ◌*◌, ◌≤◌}
use Rattle.day_write.specs.Write.{lengths_before}
use Rattle.day_write.proofs.judging.lengths.Given as goal

abbrev pub invariant-loop-i : goal.invariant-loop-i
invariant-loop-i l = (l.i ≤ l.i-end) × (l.sum ≤ 65535 * l.i) × (l.sum ≡ lengths_before l.frames l.i)

abbrev pub decreases-loop-i : goal.decreases-loop-i
decreases-loop-i l = l.i-end - l.i
