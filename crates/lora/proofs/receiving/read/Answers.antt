-- By the header, or by the values that were agreed.
use mathlib.Core.Path.{◌∙◌}
use Rattle.lora.specs.Read.{read_of}
use Rattle.lora.specs.declared.Expected.TheVariants.{Agreed}
use Rattle.lora.proofs.AnswerLaws.{bytes-said, hurts-said}
use Rattle.lora.proofs.receiving.read.Goals as goal

pub returns-in_ok-shape-in-Agreed : goal.returns-in_ok-shape-in-Agreed
unfolding read_of
returns-in_ok-shape-in-Agreed c =
    let v = c.in-Agreed in
    let (said, frame, len) = c.in_ok-shape-in-Agreed.ensures in
    let b = rw (frame, len) at c.read_bare.ensures in
    rw v.is (record {
      answer = b.answer ∙ rw said;
      cells = b.cells ∙ bytes-said _ _ (Agreed v.length v.cr v.checked) _ _ _ _ _ _ _ _ b.answer;
      marks = b.marks ∙ hurts-said _ _ (Agreed v.length v.cr v.checked) _ _ _ _ _ _ _ _ b.answer;
    })
