-- `close_piece` answers the open piece, counts it and opens the next.
-- Assumes nothing.
use native.Mathlib.Omega.{arith}
use Rattle.lines.specs.Stream.{next}
use Rattle.lines.proofs.Progress.close_piece.Goals as goal

pub returns : goal.returns
unfolding next
returns c =
    let e = c.answer_behind-answer.ensures in
    (rw (c.renew.ensures, e.3, c.count_in-self.ensures, e.2), e.0, omega (arith, e.1))
