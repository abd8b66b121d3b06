-- `call` goes by whether the text is bad, and whether a mark stood in front.
-- Assumes nothing.
use Rattle.capture.proofs.CallLaws.{bad-said, agreed-said, plain-said}
use Rattle.capture.proofs.Scan.call.Goals as goal

pub returns-in_err-numbers : goal.returns-in_err-numbers
returns-in_err-numbers c = rw (c.from_residual.ensures, ← c.self.view_is) (bad-said _ c.in_err-numbers.ensures)

pub returns-then-self : goal.returns-then-self
returns-then-self c =
    let is = c.in_ok-numbers.ensures in
    rw (c.agreed_call.ensures, is.1, ← c.self.view_is) (agreed-said _ is.0 c.if-self.true)

pub returns-else-self : goal.returns-else-self
returns-else-self c =
    let is = c.in_ok-numbers.ensures in
    rw (c.call_for.ensures, is.1, ← c.self.view_is) (plain-said _ is.0 c.if-self.false)
