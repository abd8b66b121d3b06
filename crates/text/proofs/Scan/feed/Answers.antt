use Rattle.std.proofs.Common.{rules, sym}
use Rattle.std.proofs.lemmas.List.{take_all}
use Rattle.bits.proofs.Lists.{foldl-more}
use Rattle.text.specs.Scan.{step, run}
use Rattle.text.proofs.Scan.feed.Goals as goal

pub loop-b-init : goal.loop-b-init
unfolding run
loop-b-init c = search rules

pub loop-b-preserved : goal.loop-b-preserved
unfolding run
loop-b-preserved c =
    let l = c.loop-b in
    rw (← foldl-more step c.args.self.now c.args.piece.now l.b-index 0 c.loop-b-test.true, ← l.invariant) c.take_byte.ensures

pub returns : goal.returns
returns c = rw (take_all c.loop-b.b-index c.args.piece.now c.loop-b-test.false) at c.loop-b.invariant
