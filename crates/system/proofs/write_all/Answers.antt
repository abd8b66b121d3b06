use Rattle.std.proofs.Common.{ℕ, arith, length-drop}
use Rattle.std.proofs.lemmas.List.{take_rest}
use Rattle.std.proofs.Math.Seq.{take-add}
use Rattle.std.proofs.KnownBytes.{Appends-trans}
use Rattle.system.proofs.write_all.Goals as goal

pub loop-preserved : goal.loop-preserved
loop-preserved g c =
    let i = c.loop.invariant in
    let e = c.in-Ok.ensures in
    (omega (arith, length-drop {A = ℕ}), rw take-add (Appends-trans _ _ _ _ _ i.1 (rw (take_rest c.args.bytes.now c.loop.done) at e.bytes)))
