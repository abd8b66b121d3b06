-- `take_piece` takes a piece, or what is left of one.
-- Assumes nothing.
use native.Mathlib.Omega.{arith}
use Rattle.lines.proofs.StreamLaws.{went-piece, went-rest}
use borrow.Author.Rules.{rules}
use Rattle.lines.proofs.Progress.take_piece.Goals as goal

pub returns-then-end-chunk : goal.returns-then-end-chunk
returns-then-end-chunk c =
    let end = c.line_end-end.ensures in
    let d = c.close_piece-used.ensures in
    (went-piece end c.take_part.ensures c.if-end-chunk.true d.0 d.1, omega (arith, end.forth))

pub returns : goal.returns
returns c =
    let a = c.args in
    let end = c.line_end-end.ensures in
    (went-rest a.used a.out.now end c.take_part.ensures c.requires.0 c.if-end-chunk.false (search rules), omega (arith, c.if-end-chunk.false, c.requires.0))
