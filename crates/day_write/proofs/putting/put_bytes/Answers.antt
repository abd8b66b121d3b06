-- A byte more at each place, and the whole list at the end.
-- Assumes nothing.
use mathlib.Core.Path.{◌≡◌}
use native.Mathlib.Nat.{add-zero, add_assoc}
use native.Mathlib.Numerals.{add-one}
use native.Mathlib.Omega.{arith}
use lib.ListN.{length}
use lib.Seq.{take_all, take-suc}
use Rattle.put.proofs.Puts.{put_on, put_one, put-none}
use borrow.Author.Rules.{rules}
use Rattle.day_write.proofs.putting.put_bytes.Goals as goal

pub loop-i-init : goal.loop-i-init
loop-i-init c = rw add-zero (put-none _ _ (omega (arith, c.requires)))

pub loop-i-preserved : goal.loop-i-preserved
loop-i-preserved c =
    let l = c.loop-i in
    rw (← add_assoc c.args.at l.i 1, add-one l.i, take-suc c.args.bytes.now l.i 0 (search rules))
    (put_on l.invariant (put_one _ _ _ (omega (arith, c.requires, c.loop-i-test.true, l.auto.out))))

pub returns : goal.returns
returns c =
    let l = c.loop-i in
    let all : l.i ≡ length c.args.bytes.now = omega (arith, c.loop-i-test.false, l.auto.i-end) in
    rw (all, take_all (length c.args.bytes.now) c.args.bytes.now (search rules)) at l.invariant
