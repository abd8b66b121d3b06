-- The frame of the payload's own header, as much of it as is sent, and checksum.
use mathlib.Core.Path.{◌≡◌, refl, sym}
use native.Mathlib.Omega.{arith}
use lib.ListN.{length}
use lib.Seq.{length-take-le}
use Rattle.coding.specs.Nibbles.{frame_nibble}
use Rattle.lora.specs.Code.{header_sent, sent_nibble, sent_symbol}
use Rattle.lora.proofs.SendLaws.{sendable}
use borrow.Author.Rules.{rules}
use Rattle.lora.proofs.sending.send.Goals as goal

pub slice_bounds-write_frame-end : goal.slice_bounds-write_frame-end
slice_bounds-write_frame-end c =
    let five : length c.header_nibbles-header.result ≡ 5 = search rules in
    sym (length-take-le _ _ (omega (arith, five, c.args.shape.valid.header-high)))

pub write_frame-requires : goal.write_frame-requires
unfolding header_sent
write_frame-requires c =
    let shape = c.args.shape in
    let sent = sendable shape.frame _ shape.valid c.args.payload.now refl (omega (arith, shape.short, c.requires.0)) in
    (shape.valid, rw c.header_nibbles-header.ensures sent, rw (c.requires.0, ← shape.whole) c.requires.1)

pub returns : goal.returns
unfolding sent_symbol sent_nibble frame_nibble header_sent
returns c =
    rw (c.args.shape.whole, ← c.requires.0) (rw (c.header_nibbles-header.ensures, c.checksum-checksum.ensures) at c.write_frame.ensures)
