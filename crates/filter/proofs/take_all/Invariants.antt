-- `take_all` takes an input whole, or breaks off.
-- Assumes nothing.
use mathlib.Core.List.{List}
use mathlib.Core.Path.{◌≡◌}
use Prim.Native.Nat.{ℕ, ◌≤◌}
use lib.ListN.{length}
use Rattle.lines.specs.Stream.{run}
use Rattle.filter.proofs.take_all.Given as goal

abbrev pub invariant-loop : goal.invariant-loop
invariant-loop l = ((input : List ℕ) × (l.progress ≡ run l.initial.progress input)) × (17600 ≤ length l.out)
