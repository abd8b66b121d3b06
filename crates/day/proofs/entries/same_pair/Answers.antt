-- `same_pair` compares SF, then the flag.
-- Assumes nothing.
use borrow.Author.Tests.{eq-eqb, ne_eqb}
use Rattle.day.specs.Stages.{pair_at}
use Rattle.day.proofs.entries.same_pair.Goals as goal

pub returns-then-sf-byte_at : goal.returns-then-sf-byte_at
unfolding pair_at
returns-then-sf-byte_at c = rw (← c.byte_at.ensures, ← c.byte_at-then-sf-byte_at.ensures, eq-eqb _ _ c.if-sf-byte_at.true)

pub returns-else-sf-byte_at : goal.returns-else-sf-byte_at
unfolding pair_at
returns-else-sf-byte_at c = rw (← c.byte_at.ensures, ne_eqb _ _ c.if-sf-byte_at.false)
