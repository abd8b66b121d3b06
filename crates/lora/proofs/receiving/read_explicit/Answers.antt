-- The header in block 0, then the frame that it says.
use mathlib.Core.Path.{◌∙◌}
use Rattle.lora.specs.Read.{read_of}
use Rattle.lora.proofs.AnswerLaws.{bytes-said, hurts-said}
use Rattle.lora.proofs.HeadLaws.{head-sound}
use Rattle.lora.proofs.ReadLaws.{said_valid}
use Rattle.lora.proofs.receiving.read_explicit.Goals as goal

pub symbols_of-requires : goal.symbols_of-requires
symbols_of-requires c =
    let k = head-sound _ _ _ c.in_ok-opened.ensures.0 in
    (rw c.frame_of-frame.ensures (said_valid _ c.args.low _ k), k.short)

pub invariant_of-shape : goal.invariant_of-shape
invariant_of-shape c =
    let k = head-sound _ _ _ c.in_ok-opened.ensures.0 in
    record {
      valid = rw c.frame_of-frame.ensures (said_valid _ c.args.low _ k);
      short = k.short;
      whole = c.symbols_of.ensures;
    }

pub returns : goal.returns
unfolding read_of
returns c =
    let b = rw c.frame_of-frame.ensures at c.read_body.ensures in
    record {
      answer = b.answer ∙ rw c.in_ok-opened.ensures.0;
      cells = b.cells ∙ bytes-said _ _ _ _ _ _ _ _ _ _ _ b.answer;
      marks = b.marks ∙ hurts-said _ _ _ _ _ _ _ _ _ _ _ b.answer;
    }
