-- `show_entries` comes to the end of the walk, or a write fails. The loop's invariant: the place is one that the walk comes to.
-- Assumes nothing.
use Prim.Native.Nat.{◌≤◌}
use lib.ListN.{length}
use Rattle.showing.proofs.AlongLaws.{Reached}
use Rattle.showing.proofs.show_entries.Given as goal

abbrev pub invariant-loop : goal.invariant-loop
invariant-loop l = Reached l.bytes l.place × (640 ≤ length l.out)
