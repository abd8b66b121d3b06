-- `write_hurt` writes the line of either answer, an accepted one with the counts of its own symbols.
-- Assumes nothing.
use Prim.Native.Nat.{ℕ, ◌≤◌}
use native.Mathlib.Omega.{arith}
use Rattle.line.proofs.LineLaws.{line-length}
use Rattle.put.proofs.Puts.{put_all}
use borrow.Author.Rules.{rules}
use Rattle.hurt.proofs.write_hurt.Goals as goal

-- a refusal's line is far shorter than the room
room : (n : ℕ) → n ≤ 640 → n ≤ 7000
room n h = omega arith

pub returns-in-Ok : goal.returns-in-Ok
returns-in-Ok c =
    let e = c.write_ok.ensures in
    let written = put_all e.0 in
    rw c.in-Ok.is (written.0, e.1, written.1)

pub returns-in-Err : goal.returns-in-Err
returns-in-Err c =
    let e = rw c.in-Err.is at c.write_line.ensures in
    rw c.in-Err.is (e.0, rw e.0 (room _ (line-length _ _ (search rules))), e.1)
