use mathlib.Core.List.{[]}
use Rattle.text.specs.Scan.{run}
use Rattle.text.proofs.TextLaws.{run-on}
use Rattle.lora_read.proofs.take_all.Goals as goal

pub loop-init : goal.loop-init
unfolding run
loop-init c = ([], c.new-scan.ensures)

pub loop-preserved : goal.loop-preserved
loop-preserved c =
    let held = c.loop.invariant in
    let more = rw c.if-not-branch.false at c.in_ok-take_got.ensures in
    (_, run-on _ held.0 _ held.1 more.3)
