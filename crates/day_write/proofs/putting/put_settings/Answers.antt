-- `put_settings` writes the count, and then the rows as they are.
-- Assumes nothing.
use native.Mathlib.Omega.{arith}
use Rattle.day.specs.Day.{put_count}
use Rattle.put.proofs.Puts.{put_on}
use Rattle.day_write.proofs.PutLaws.{settings-section, settings-room}
use Rattle.day_write.proofs.putting.put_settings.Goals as goal

pub put_count-next-requires : goal.put_count-next-requires
put_count-next-requires c = (c.requires.0, omega (arith, c.requires.1, settings-room c.args.settings.now))

pub put_bytes-requires : goal.put_bytes-requires
unfolding put_count
put_bytes-requires c = omega (arith, c.requires.1, settings-room c.args.settings.now)

pub returns : goal.returns
returns c = rw (settings-section c.args.settings.now) (put_on c.put_count-next.ensures c.put_bytes.ensures)
