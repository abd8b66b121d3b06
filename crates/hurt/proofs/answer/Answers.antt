-- `answer` reads the capture and writes the line.
-- Assumes nothing.
use Rattle.bits.specs.Tab.{blank}
use Rattle.capture.specs.Scan.{taken, outcome_at}
use Rattle.capture.proofs.CallLaws.{heard-line}
use Rattle.hurt.specs.Answer.{line_at}
use Rattle.hurt.proofs.AnswerLaws.{hurt-line}
use borrow.Author.Rules.{rules}
use Rattle.hurt.proofs.answer.Goals as goal

pub answer_with-requires : goal.answer_with-requires
unfolding blank
answer_with-requires c = ((hurt-line c.receive-received.ensures).0, search rules, search rules)

pub returns : goal.returns
unfolding blank line_at outcome_at taken
returns c =
    let heard = c.receive-received.ensures in
    rw (← c.finish.ensures, ← (hurt-line heard).1, ← (heard-line heard).2) c.answer_with.ensures
