-- `close_last` answers a last piece that is not empty.
-- Assumes nothing.
use Rattle.put.proofs.Puts.{put-none}
use mathlib.Core.Bool.{true, false}
use Rattle.lines.proofs.StreamLaws.{at-end}
use borrow.Author.Rules.{rules}
use Rattle.lines.proofs.Progress.close_last.Goals as goal

pub returns-then-self : goal.returns-then-self
returns-then-self c =
    let e = at-end c.args.self.now true c.if-self.true in
    let d = c.close_piece.ensures in
    (rw e.0 d.0, rw e.1 d.1, search rules)

pub returns : goal.returns
returns c =
    let a = c.args in
    let e = at-end a.self.now false c.if-self.false in
    (rw e.0, rw e.1 (put-none 0 a.out.now (search rules)), search rules)
