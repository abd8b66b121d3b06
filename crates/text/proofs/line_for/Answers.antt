-- `line_for` writes the line of either answer, an accepted one with the part of the array that holds its payload.
-- Assumes nothing.
use Prim.Native.Nat.{◌≤◌}
use native.Mathlib.Omega.{arith}
use lib.Seq.{length-take-le}
use Rattle.line.proofs.LineLaws.{line-length}
use borrow.Author.Rules.{rules}
use Rattle.text.proofs.line_for.Goals as goal

-- a payload that is answered fits the array, so that the part of the array is as long
pub returns-in-Ok : goal.returns-in-Ok
returns-in-Ok c =
    let e = c.write_line.ensures in
    let a = c.in-Ok.a in
    let h : a.length ≤ 255 = rw c.in-Ok.is at c.requires.0 in
    rw c.in-Ok.is
    (e.0, rw e.0 (line-length _ _ (omega (arith, length-take-le a.length c.args.payload (search rules)))), e.1)

pub returns-in-Err : goal.returns-in-Err
returns-in-Err c =
    let e = rw c.in-Err.is at c.write_line-in-Err.ensures in
    rw c.in-Err.is (e.0, rw e.0 (line-length _ _ (omega arith)), e.1)
