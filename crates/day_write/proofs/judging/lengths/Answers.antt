use mathlib.Core.Path.{◌≡◌}
use Prim.Native.Nat.{◌+◌, ◌*◌, ◌/◌, ◌≤◌}
use native.Mathlib.Omega.{arith}
use lib.ListN.{length}
use Rattle.day_write.proofs.JudgingLaws.{lengths_none, lengths-next}
use borrow.Author.Rules.{rules}
use Rattle.day_write.proofs.judging.lengths.Goals as goal

pub loop-i-init : goal.loop-i-init
loop-i-init c = (search rules, search rules, lengths_none _)

pub overflow_add-sum : goal.overflow_add-sum
overflow_add-sum c =
    let l = c.loop-i in
    let small = (c.type_inv.frames (5 * l.i + 4)).fits in
    let few : l.sum + c.from-sum.result ≤ 16777216 = omega (arith, c.from-sum.ensures, small, l.invariant.1, c.requires) in
    omega (arith, few)

pub loop-i-preserved : goal.loop-i-preserved
loop-i-preserved c =
    let l = c.loop-i in
    let small = (c.type_inv.frames (5 * l.i + 4)).fits in
    (search rules, omega (arith, c.from-sum.ensures, small, l.invariant.1), lengths-next _ _ _ _ l.invariant.2 c.from-sum.ensures)

pub returns : goal.returns
returns c =
    let l = c.loop-i in
    let e : l.i ≡ length c.args.frames.now / 5 = omega arith in
    rw e at l.invariant.2
