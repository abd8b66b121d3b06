-- The cells so far, and no sum among them passes 32 bits.
use Rattle.std.proofs.Common.{◌≡◌, ◌-◌}
use Rattle.bits.specs.Search.{first}
use Rattle.bits.proofs.Fill.{Filled}
use Rattle.tally.specs.Tally.{sum_at, passes}
use Rattle.tally.proofs.sums.Given as goal

abbrev pub invariant-loop-i : goal.invariant-loop-i
invariant-loop-i l = record {
  filled : Filled (sum_at l.fn.a l.fn.b) l.fn.a l.i l.c;
  so_far : first (passes (sum_at l.fn.a l.fn.b)) 13 0 ≡ first (passes (sum_at l.fn.a l.fn.b)) (13 - l.i) l.i;
}
