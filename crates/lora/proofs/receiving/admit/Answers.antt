-- The checks 4 for the payload, 4 for the list, 5 and 6, in this order.
use mathlib.Core.Path.{◌≡◌, sym}
use native.Mathlib.Omega.{arith}
use Rattle.std.specs.Prelude.{None, Some}
use Rattle.layout.specs.Layout.{symbols_of}
use Rattle.lora.specs.Read.{over_in_frame}
use Rattle.lora.proofs.HeadLaws.{over-front}
use Rattle.lora.proofs.ReadLaws.{says_four, says-four-marks, says_five, says_six, says-data, all-below}
use Rattle.lora.proofs.receiving.admit.Goals as goal

pub returns-then-room-len : goal.returns-then-room-len
returns-then-room-len c = says_four _ _ _ _ _ c.if-room-len.true

pub returns-then-marks-total : goal.returns-then-marks-total
returns-then-marks-total c = says-four-marks _ _ _ _ _ c.args.shape.whole c.if-room-len.false c.if-marks-total.true

pub returns-then-symbols-total : goal.returns-then-symbols-total
returns-then-symbols-total c = says_five _ _ _ _ _ c.args.shape.whole c.if-room-len.false c.if-marks-total.false c.if-symbols-total.true

pub returns-in-Some : goal.returns-in-Some
unfolding over_in_frame
returns-in-Some c =
    let shape = c.args.shape in
    let (found, below) = over-front shape.frame.sf c.args.symbols.now shape.total (Some c.in-Some.place) c.if-symbols-total.false c.in-Some.ensures in
    says_six _ _ _ _ _ shape.whole c.if-room-len.false c.if-marks-total.false c.if-symbols-total.false (rw shape.whole at (sym found)) below

pub returns : goal.returns
unfolding over_in_frame
returns c =
    let shape = c.args.shape in
    let fits = c.if-room-len.false in
    let lists = c.if-marks-total.false in
    let there = c.if-symbols-total.false in
    let none : over_in_frame shape.frame c.args.symbols.now shape.len ≡ symbols_of shape.frame shape.len =
    rw shape.whole at (over-front shape.frame.sf c.args.symbols.now shape.total None there c.in_default.ensures) in (
      fits,
      omega (arith, shape.whole, lists),
      omega (arith, shape.whole, there),
      all-below shape.frame c.args.symbols.now shape.len (omega (arith, none)),
      says-data _ _ _ _ _ shape.whole fits lists there (sym none) (omega (arith, shape.whole)),
    )
