use mathlib.Core.Path.{◌≡◌}
use mathlib.Core.List.{List}
use Prim.Native.Nat.{ℕ, ◌/◌}
use native.Mathlib.Omega.{arith}
use lib.ListN.{length}
use Rattle.day.specs.Day.{put_count, refused_frame}
use Rattle.put.proofs.Puts.{put_on, put-none}
use Rattle.day_write.specs.Write.{refused_row}
use Rattle.day_write.specs.Parts.{refused_part}
use Rattle.day_write.proofs.EachLaws.{put_each-none, put_each-more}
use Rattle.day_write.proofs.RowLaws.{refused-count, refused-fits}
use Rattle.day_write.proofs.PutLaws.{section-is, section-length, section-room}
use borrow.Author.Rules.{rules}
use Rattle.day_write.proofs.putting.put_refused.Goals.{Start}
use Rattle.day_write.proofs.putting.put_refused.Goals as goal

-- the rows, from the start
abbrev rows : Start → List ℕ
rows c = c.args.refused.now

pub put_count-next-requires : goal.put_count-next-requires
unfolding refused_part
put_count-next-requires c =
    let rs = rows c.before.before.before.before in
    (refused-count rs c.requires.0, omega (arith, section-length (refused_frame 255) (length rs / 3) (refused_row rs)))

pub loop-i-init : goal.loop-i-init
loop-i-init c = (search rules, rw (← put_each-none (refused_frame 255).put (refused_row (rows c.before.before.before.before.before.before.before))) (put-none _ _ (search rules)))

pub put_refused_frame-next-requires : goal.put_refused_frame-next-requires
unfolding refused_part put_count
put_refused_frame-next-requires c =
    let rs = rows c.before.before.before.before.before.before.before.before.before.before in
    let more = c.loop-i-test.true in (
      refused-fits rs c.requires.0 c.loop-i.i more,
      omega (arith, section-room (refused_frame 255) (length rs / 3) c.loop-i.i (refused_row rs) more),
    )

pub loop-i-preserved : goal.loop-i-preserved
loop-i-preserved c =
    let row = refused_row (rows c.before.before.before.before.before.before.before.before.before.before.before.before.before) in (
      search rules,
      rw (← put_each-more (refused_frame 255).put c.loop-i.i row) (put_on c.loop-i.invariant.1 c.put_refused_frame-next.ensures),
    )

pub returns : goal.returns
unfolding refused_part
returns c =
    let rs = rows c.before.before.before.before.before.before.before.before.before in
    let all : c.loop-i.i ≡ length rs / 3 = search rules in
    rw (section-is (refused_frame 255) (length rs / 3) (refused_row rs)) (put_on c.put_count-next.ensures (rw all at c.loop-i.invariant.1))
