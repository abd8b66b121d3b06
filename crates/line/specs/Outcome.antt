-- The line that answers a text in a lent buffer, and what came of the text.
-- Assumes nothing.
use Rattle.std.specs.Prelude.{List, ◌≡◌, ℕ, ◌≤◌, length}
use Rattle.bits.specs.Tab.{placed}
use Rattle.line.specs.declared.Answer.{Answer}
use Rattle.line.specs.declared.Outcome.{Outcome}

-- the line, of at most so many bytes, stands at the front of the lent buffer; its length and the outcome were answered
pub record Answered (most : ℕ) (line : List ℕ) (outcome : Outcome) (old new : List ℕ) (r : Answer) : Type 0 where
  pub long : r.length ≡ length line
  pub short : r.length ≤ most
  pub cells : new ≡ placed 0 line old
  pub is : r.outcome ≡ outcome
