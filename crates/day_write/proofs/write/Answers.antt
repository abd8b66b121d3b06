-- `write` judges before it writes anything, and looks for the room.
-- Assumes nothing.
use Rattle.day_write.proofs.WriteLaws.{not_good, both-good, with-room, no_room, wrote}
use Rattle.day_write.proofs.write.Goals as goal

pub returns-then-not-good : goal.returns-then-not-good
returns-then-not-good c = not_good _ _ _ _ _ _ c.good.ensures _ c.if-not-good.true-raw

pub file_length-bytes-requires : goal.file_length-bytes-requires
file_length-bytes-requires c = both-good _ _ _ _ _ _ c.good.ensures c.if-not-good.false-raw

pub returns-then-out-bytes : goal.returns-then-out-bytes
returns-then-out-bytes c =
    no_room _ _ _ _ _ _ c.good.ensures c.if-not-good.false-raw _ c.file_length-bytes.ensures _ c.if-out-bytes.true

pub put_file-requires : goal.put_file-requires
put_file-requires c =
    with-room _ _ _ _ _ _ c.good.ensures c.if-not-good.false-raw _ c.file_length-bytes.ensures _ c.if-out-bytes.false

pub returns : goal.returns
returns c =
    wrote _ _ _ _ _ _ c.good.ensures c.if-not-good.false-raw _ c.file_length-bytes.ensures _ _ _ c.if-out-bytes.false c.put_file.ensures
