-- `feed` takes the front byte by byte, and the rest into the text.
-- Assumes nothing.
use Rattle.std.proofs.Common.{◌-◌, length, drop, arith}
use Rattle.std.proofs.lemmas.List.{take_all, length-drop}
use Rattle.capture.proofs.ScanLaws.{piece-rest}
use Rattle.capture.proofs.Scan.feed.Goals as goal

pub returns : goal.returns
returns c =
    let piece = c.args.piece.now in
    let end = c.take_front-end.result in
    rw (c.feed.ensures, take_all (length piece - end) (drop end piece) (omega (arith, length-drop end piece)))
    (piece-rest _ piece _ end (rw (← c.self.view_is) at c.take_front-end.ensures))
