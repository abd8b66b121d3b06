-- `answer_text` reads the frame, and writes the line.
-- Assumes nothing.
use Rattle.bits.specs.Tab.{blank}
use Rattle.text.proofs.AnswerLaws.{heard-line}
use borrow.Author.Rules.{rules}
use Rattle.text.proofs.answer_text.Goals as goal

pub answer_with-requires : goal.answer_with-requires
unfolding blank
answer_with-requires c = ((heard-line _ c.receive-received.ensures).0, search rules)

pub returns : goal.returns
unfolding blank
returns c =
    let is = heard-line _ c.receive-received.ensures in
    rw (← is.1, ← is.2) c.answer_with.ensures
