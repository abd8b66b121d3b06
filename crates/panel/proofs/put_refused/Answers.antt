use mathlib.Core.Path.{refl}
use native.Mathlib.Omega.{arith}
use Rattle.panel.proofs.Rows.{written-none, row-room, written-more, written-all}
use Rattle.panel.proofs.put_refused.Goals as goal

pub loop-words-init : goal.loop-words-init
loop-words-init c = written-none _ _ _ _ (omega arith)

pub put_line-next-requires : goal.put_line-next-requires
put_line-next-requires c = row-room c.loop-words.invariant refl c.loop-words-test.true (omega arith)

pub loop-words-preserved : goal.loop-words-preserved
loop-words-preserved c =
    let e = c.put_line-next.ensures in
    written-more c.loop-words.invariant refl c.loop-words-test.true (rw c.from.ensures at e.0) e.1

pub returns : goal.returns
returns c =
    let w = c.loop-words.invariant in
    (written-all w refl c.loop-words-test.false, omega (arith, w.few))
