-- `put_file` writes the first byte and the three parts, one behind the other.
-- Assumes nothing.
use native.Mathlib.Omega.{arith}
use Rattle.day_write.proofs.RowLaws.{fit}
use Rattle.day_write.proofs.PutLaws.{file-is, file-length}
use Rattle.put.proofs.Puts.{put_on}
use Rattle.day_write.proofs.putting.put_file.Goals as goal

pub put-after_mark-requires : goal.put-after_mark-requires
put-after_mark-requires c =
    let r = c.args.rows in
    omega (arith, file-length r.settings.now r.frames.now r.payloads.now r.refused.now, c.requires.2)

pub put_settings-after_settings-requires : goal.put_settings-after_settings-requires
put_settings-after_settings-requires c =
    let r = c.args.rows in
    ((fit _ _ _ _ c.requires.0 c.requires.1).settings, omega (arith, file-length r.settings.now r.frames.now r.payloads.now r.refused.now, c.requires.2))

pub put_frames-after_frames-requires : goal.put_frames-after_frames-requires
put_frames-after_frames-requires c =
    let r = c.args.rows in
    ((fit _ _ _ _ c.requires.0 c.requires.1).frames, omega (arith, file-length r.settings.now r.frames.now r.payloads.now r.refused.now, c.requires.2))

pub put_refused-requires : goal.put_refused-requires
put_refused-requires c =
    let r = c.args.rows in
    ((fit _ _ _ _ c.requires.0 c.requires.1).refused, omega (arith, file-length r.settings.now r.frames.now r.payloads.now r.refused.now, c.requires.2))

pub returns : goal.returns
returns c =
    rw (file-is c.args.rows.settings.now c.args.rows.frames.now c.args.rows.payloads.now c.args.rows.refused.now)
    (put_on c.put-after_mark.ensures
    (put_on c.put_settings-after_settings.ensures
    (put_on c.put_frames-after_frames.ensures
    c.put_refused.ensures)))
