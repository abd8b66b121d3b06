-- `answer` reads the capture and writes the line.
-- Assumes nothing.
use Rattle.bits.specs.Tab.{blank}
use Rattle.capture.specs.Scan.{line_at, outcome_at, taken}
use Rattle.capture.proofs.CallLaws.{heard-line}
use borrow.Author.Rules.{rules}
use Rattle.capture.proofs.Scan.answer.Goals as goal

pub answer_with-requires : goal.answer_with-requires
unfolding blank
answer_with-requires c = ((heard-line c.receive-received.ensures).0, search rules)

pub returns : goal.returns
unfolding blank line_at outcome_at taken
returns c =
    let is = heard-line c.receive-received.ensures in
    rw (← c.finish.ensures, ← is.1, ← is.2) c.answer_with.ensures
