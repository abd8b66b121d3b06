use mathlib.Core.List.{[]}
use mathlib.Core.Path.{refl}
use native.Mathlib.Omega.{arith}
use Rattle.lines.specs.Stream.{run}
use Rattle.filter.proofs.TurnLaws.{run-on}
use Rattle.filter.proofs.take_all.Goals as goal

pub loop-init : goal.loop-init
unfolding run
loop-init c = (([], refl), c.requires)

pub loop-preserved : goal.loop-preserved
loop-preserved c =
    let held = c.loop.invariant.0 in
    let came = (rw c.if-not-branch.false at c.in_ok-answer_got.ensures).came in
    ((_, run-on _ held.0 _ held.1 came.3), omega arith)
