-- `write` hands the entries on.
-- Assumes nothing.
use mathlib.Core.Path.{◌≡◌}
use lib.ListN.{length}
use Rattle.day_keep.proofs.RoomLaws.{written-room}
use borrow.Author.Rules.{rules}
use Rattle.day_keep.proofs.write.Goals as goal

pub returns : goal.returns
returns c =
    let long : length c.write.new.out ≡ length c.args.file.now = search rules in
    rw long (written-room c.write.ensures)
