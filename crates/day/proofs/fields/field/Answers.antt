-- The byte at the place is tested by its range.
-- Assumes nothing.
use Rattle.day.specs.Day.{within}
use Rattle.day.proofs.ReaderLaws.{tested-reads}
use Rattle.day.proofs.fields.field.Goals as goal

pub returns-clause-value : goal.returns-clause-value
returns-clause-value c = tested-reads (within c.args.low c.args.end) _ _ (rw (c.from.ensures, c.byte_at.ensures) at c.within.ensures) c.tested.ensures
