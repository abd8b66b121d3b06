-- Count, then the room, then the frame.
use mathlib.Core.Path.{sym}
use borrow.Author.Tests.{le-leb}
use Rattle.lora.specs.Code.{code_of}
use Rattle.lora.proofs.sending.code.Goals as goal

pub send-requires : goal.send-requires
send-requires c =
    let (said, frame, len) = c.in_ok-shape.ensures in
    (sym len, c.if-out-count.false)

pub returns : goal.returns
unfolding code_of
returns c =
    let (said, frame, len) = c.in_ok-shape.ensures in
    record {
      cells = rw frame at c.send.ensures;
      answer = rw (said, le-leb _ _ c.if-out-count.false);
    }
