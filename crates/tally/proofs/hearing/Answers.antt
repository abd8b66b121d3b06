-- 16 first, then what adding the tally of one outcome answers.
use Rattle.std.proofs.Common.{sym, ◌∙◌}
use Rattle.tally.specs.Tally.{hear_of, take_in_of}
use Rattle.tally.proofs.hearing.Goals as goal

pub returns : goal.returns
unfolding hear_of take_in_of
returns c = rw (sym c.is_known.ensures ∙ c.if-not-is_known.false, ← c.single.ensures) c.taking.ensures
