-- `put_refused_frame` writes the fields of one row.
-- Assumes nothing.
use native.Mathlib.Omega.{arith}
use Prim.Native.Nat.{◌+◌, ◌≤◌}
use lib.ListN.{length}
use Rattle.day_write.proofs.RowLaws.{refused-cells}
use Rattle.day_write.proofs.PutLaws.{refused-put, refused-length}
use Rattle.put.proofs.Puts.{put_on}
use Rattle.day_write.proofs.putting.put_refused_frame.Goals.{Start}
use Rattle.day_write.proofs.putting.put_refused_frame.Goals as goal

-- the room for the row, from the start
room : (c : Start) → c.args.at + 4 ≤ length c.args.out.now
room c = omega (arith, refused-length c.args.refused.now c.args.i)

pub put_cell-after_setting-requires : goal.put_cell-after_setting-requires
put_cell-after_setting-requires c =
    (omega (arith, c.requires.0.there), (refused-cells _ _ c.requires.0).0, omega (arith, room c.before.before.before.before))

pub put_cell-after_number-requires : goal.put_cell-after_number-requires
put_cell-after_number-requires c =
    (omega (arith, c.requires.0.there), (refused-cells _ _ c.requires.0).1, omega (arith, room c.before.before.before.before.before.before.before.before))

pub put_two-requires : goal.put_two-requires
put_two-requires c = omega (arith, room c.before.before.before.before.before.before.before.before.before.before.before.before.before)

pub returns : goal.returns
returns c =
    rw (refused-put c.args.refused.now c.args.i)
    (put_on c.put_cell-after_setting.ensures (put_on c.put_cell-after_number.ensures c.put_two.ensures))
