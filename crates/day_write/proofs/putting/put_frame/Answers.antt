-- `put_frame` writes the fields of one row, then its payload.
-- Assumes nothing.
use Prim.Native.Nat.{◌+◌, ◌*◌, ◌≤◌}
use native.Mathlib.Nat.{add-sub_cancel_left}
use native.Mathlib.Omega.{arith}
use lib.ListN.{length, get_or}
use Rattle.day.specs.Day.{low_first}
use Rattle.day_write.proofs.RowLaws.{frame-cells}
use Rattle.day_write.proofs.PutLaws.{frame-put, frame-length}
use Rattle.put.proofs.Puts.{put_on}
use Rattle.day_write.proofs.putting.put_frame.Goals.{Start}
use Rattle.day_write.proofs.putting.put_frame.Goals as goal

-- the room for the row, from the start
room : (c : Start) → c.args.at + (6 + get_or c.args.frames.now (5 * c.args.i + 4) 0) ≤ length c.args.out.now
room c = omega (arith, frame-length c.args.frames.now c.args.payloads.now c.args.i c.requires.0.whole)

pub put_three-after_flag-requires : goal.put_three-after_flag-requires
put_three-after_flag-requires c =
    let (setting, cr, flag, len) = frame-cells _ _ _ c.requires.0 in
    (omega (arith, c.requires.0.there), setting, cr, flag, omega (arith, room c.before.before.before.before.before.before))

pub put_two-after_repairs-requires : goal.put_two-after_repairs-requires
put_two-after_repairs-requires c = omega (arith, room c.before.before.before.before.before.before.before.before.before.before.before)

pub put_cell-after_length-requires : goal.put_cell-after_length-requires
unfolding low_first
put_cell-after_length-requires c =
    (omega (arith, c.requires.0.there), (frame-cells _ _ _ c.requires.0).3, omega (arith, room c.before.before.before.before.before.before.before.before.before.before.before.before.before.before.before))

pub put_bytes-requires : goal.put_bytes-requires
unfolding low_first
put_bytes-requires c = omega (arith, room c.before.before.before.before.before.before.before.before.before.before.before.before.before.before.before.before.before.before.before.before, c.payload_length.ensures)

pub returns : goal.returns
returns c =
    rw (frame-put c.args.frames.now c.args.payloads.now c.args.i c.requires.0.whole, ← c.requires.1)
    (put_on c.put_three-after_flag.ensures
    (put_on c.put_two-after_repairs.ensures
    (put_on c.put_cell-after_length.ensures
    (rw (c.payload_length.ensures, add-sub_cancel_left) at c.put_bytes.ensures))))
