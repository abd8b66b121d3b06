use native.Mathlib.Omega.{arith}
use Rattle.lines.proofs.StreamLaws.{went-none}
use Rattle.filter.proofs.TurnLaws.{run-part}
use borrow.Author.Rules.{rules}
use Rattle.filter.proofs.answer_chunk.Goals as goal

pub loop-at-init : goal.loop-at-init
loop-at-init c =
    let a = c.args in
    ((went-none a.progress.now a.chunk.now a.out.now 0 0 (search rules) (search rules)).is, search rules, c.requires)

pub loop-at-preserved : goal.loop-at-preserved
loop-at-preserved c =
    let a = c.args in
    let l = c.loop-at in
    let e = c.answer_part-part.ensures in
    (run-part a.progress.now a.chunk.now l.at _ e.0.forth l.invariant.0 e.0.is, e.0.within, omega (arith, e.0.put.long, l.invariant.2))
