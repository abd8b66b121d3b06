-- `answer_chunk` takes the whole chunk.
-- Assumes nothing.
use mathlib.Core.Path.{◌≡◌}
use Prim.Native.Nat.{◌≤◌, ◌-◌}
use lib.ListN.{length}
use Rattle.lines.specs.Stream.{run, part}
use Rattle.filter.proofs.answer_chunk.Given as goal

abbrev pub invariant-loop-at : goal.invariant-loop-at
invariant-loop-at l = (l.progress ≡ run l.initial.progress (part l.chunk 0 l.at)) × (l.at ≤ length l.chunk) × (17600 ≤ length l.out)

abbrev pub decreases-loop-at : goal.decreases-loop-at
decreases-loop-at l = length l.chunk - l.at
