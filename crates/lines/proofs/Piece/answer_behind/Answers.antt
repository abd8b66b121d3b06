-- `answer_behind` leaves the bytes that wait as they are.
-- Assumes nothing.
use native.Mathlib.Omega.{arith}
use Rattle.lines.proofs.Parts.{put-part}
use Rattle.lines.proofs.Piece.answer_behind.Goals as goal

pub returns : goal.returns
returns c =
    let e = c.answer.ensures.0 in
    (put-part (omega (arith, e.long, e.short, c.requires)) e.long e.cells, e.short, e.is, c.answer.ensures.1)
