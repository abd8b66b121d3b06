-- `answer` goes by the settings that the text says, if it is a wish.
-- Assumes nothing.
use Rattle.wish.specs.Scan.{line_at, outcome_at}
use Rattle.wish.proofs.AnswerLaws.{narrow-same, numbers-say, taken-none, taken-some}
use Rattle.wish.proofs.Scan.answer.Goals as goal

pub returns-in-Some : goal.returns-in-Some
unfolding line_at outcome_at
returns-in-Some c =
    let s = c.args.self.now in
    let t = taken-some s c.in-Some.settings c.in-Some.ensures in
    let same = narrow-same (numbers-say s) s.payload in
    rw (t.0, ← same.line, ← same.outcome, ← t.1, ← c.self.view_is) c.answer_wish.ensures

pub returns-in-None : goal.returns-in-None
unfolding line_at outcome_at
returns-in-None c = rw (taken-none c.args.self.now c.in-None.ensures) c.decline.ensures
