-- `take` takes pieces until the chunk is taken or the room is too small.
-- Assumes nothing.
use Prim.Native.Nat.{◌+◌, ◌≤◌, ◌-◌}
use lib.ListN.{length}
use Rattle.lines.specs.Stream.{Went}
use Rattle.lines.proofs.Progress.take.Given as goal

abbrev pub invariant-loop-step : goal.invariant-loop-step
invariant-loop-step l = Went l.initial.self l.chunk l.initial.step.at l.step.at l.initial.step.used l.step.used l.self l.initial.out l.out
    × (l.last + 17600 ≤ length l.out)

abbrev pub decreases-loop-step : goal.decreases-loop-step
decreases-loop-step l = length l.chunk - l.step.at
