-- `finish` answers the last piece, and writes what stands behind all lines.
-- Assumes nothing.
use Rattle.lines.proofs.StreamLaws.{put_last}
use Rattle.lines.proofs.Progress.finish.Goals as goal

pub returns : goal.returns
returns c =
    let e = c.close_last-used.ensures in
    (e.0, put_last c.args.self.now e.0 e.1 c.put_end.ensures)
