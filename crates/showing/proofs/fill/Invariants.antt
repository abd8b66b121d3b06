-- `fill` puts line behind line.
-- Assumes nothing.
use Prim.Native.Nat.{◌+◌, ◌-◌, ◌≤◌}
use lib.ListN.{length}
use Rattle.showing.specs.Along.{Filled}
use Rattle.showing.proofs.fill.Given as goal

abbrev pub invariant-loop-used : goal.invariant-loop-used
invariant-loop-used l = Filled l.bytes l.fn.from l.place l.initial.out l.out l.used × (l.last + 640 ≤ length l.out)

abbrev pub decreases-loop-used : goal.decreases-loop-used
decreases-loop-used l = length l.out - l.used
