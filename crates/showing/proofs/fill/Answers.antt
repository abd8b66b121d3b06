use mathlib.Core.Path.{sym}
use native.Mathlib.Omega.{arith}
use Rattle.showing.proofs.AlongLaws.{filled_none, filled_more, line-some}
use Rattle.showing.proofs.fill.Goals as goal

pub loop-used-init : goal.loop-used-init
loop-used-init c = (filled_none _, omega arith)

pub loop-used-smaller : goal.loop-used-smaller
loop-used-smaller c =
    let e = c.put_here-used.ensures in
    omega (arith, line-some _ _ (sym c.if-not-over_at.ensures), e.next, e.within, e.long)

pub loop-used-preserved : goal.loop-used-preserved
loop-used-preserved c =
    let i = c.loop-used.invariant in
    let e = c.put_here-used.ensures in
    (filled_more i.0 e c.place_behind-place.ensures, omega (arith, e.long, i.1))
