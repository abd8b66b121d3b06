-- `answer_wish` codes the payload, and writes the line of what was coded.
-- Assumes nothing.
use Rattle.bits.specs.Tab.{blank}
use Rattle.wish.proofs.AnswerLaws.{coded-line, coded-outcome, coded-fits}
use borrow.Author.Rules.{rules}
use Rattle.wish.proofs.answer_wish.Goals as goal

pub answer_with-requires : goal.answer_with-requires
unfolding blank
answer_with-requires c = (coded-fits _ _ c.code-counted.ensures, search rules, search rules)

pub returns : goal.returns
unfolding blank
returns c =
    let coding = c.code-counted.ensures in
    rw (← coded-line _ _ coding, ← coded-outcome _ _ coding) c.answer_with.ensures
