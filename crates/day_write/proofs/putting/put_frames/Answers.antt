use mathlib.Core.Path.{◌≡◌}
use Prim.Native.Nat.{◌/◌}
use native.Mathlib.Omega.{arith}
use lib.ListN.{length}
use Rattle.day.specs.Day.{put_count, frame}
use Rattle.put.proofs.Puts.{put_on, put-none}
use Rattle.day_write.specs.Write.{frame_row}
use Rattle.day_write.specs.Parts.{frames_part, FrameFits}
use Rattle.day_write.proofs.EachLaws.{put_each-none, put_each-more}
use Rattle.day_write.proofs.RowLaws.{lengths_none, lengths-more, frames-count, frame-fits}
use Rattle.day_write.proofs.PutLaws.{section-is, section-length, section-room}
use borrow.Author.Rules.{rules}
use Rattle.day_write.proofs.putting.put_frames.Tie as tie
use Rattle.day_write.proofs.putting.put_frames.Reads as reads
use Rattle.day_write.proofs.putting.put_frames.Lts as lts
use Rattle.day_write.proofs.putting.put_frames.Goals as goal

row_fits : (c : lts.In-loop tie.the-claims reads.Pre reads.Post goal.the-invariant-loop-i goal.the-decreases-loop-i) → FrameFits c.args.frames.now c.args.payloads.now c.loop-i.i
row_fits c = frame-fits _ _ c.requires.0 _ c.loop-i-test.true

pub put_count-next-requires : goal.put_count-next-requires
unfolding frames_part
put_count-next-requires c =
    let fs = c.args.frames.now in
    let ps = c.args.payloads.now in
    (frames-count fs ps c.requires.0, omega (arith, section-length (frame 255) (length fs / 5) (frame_row fs ps)))

pub loop-i-init : goal.loop-i-init
loop-i-init c =
    let fs = c.args.frames.now in
    (search rules, lengths_none fs, rw (← put_each-none (frame 255).put (frame_row fs c.args.payloads.now)) (put-none _ _ (search rules)))

pub put_frame-next-requires : goal.put_frame-next-requires
unfolding frames_part put_count
put_frame-next-requires c =
    let fs = c.args.frames.now in
    let ps = c.args.payloads.now in (
      row_fits c.before.before,
      c.loop-i.invariant.1,
      omega (arith, section-room (frame 255) (length fs / 5) c.loop-i.i (frame_row fs ps) c.loop-i-test.true),
    )

pub payload_length-start-requires : goal.payload_length-start-requires
payload_length-start-requires c = (row_fits c.before.before.before.before.before).there

pub overflow_add-start : goal.overflow_add-start
overflow_add-start c =
    omega (arith, (row_fits c.before.before.before.before.before.before).whole, c.loop-i.invariant.1, c.payload_length-start.ensures)

pub loop-i-preserved : goal.loop-i-preserved
loop-i-preserved c =
    let fs = c.args.frames.now in
    let row = frame_row fs c.args.payloads.now in (
      search rules,
      rw (c.payload_length-start.ensures, c.loop-i.invariant.1) (lengths-more fs c.loop-i.i),
      rw (← put_each-more (frame 255).put c.loop-i.i row) (put_on c.loop-i.invariant.2 c.put_frame-next.ensures),
    )

pub returns : goal.returns
unfolding frames_part
returns c =
    let fs = c.args.frames.now in
    let ps = c.args.payloads.now in
    let all : c.loop-i.i ≡ length fs / 5 = search rules in
    rw (section-is (frame 255) (length fs / 5) (frame_row fs ps)) (put_on c.put_count-next.ensures (rw all at c.loop-i.invariant.2))
