-- The byte at the place is tested as a number of a refusal.
-- Assumes nothing.
use Rattle.day.specs.Day.{is_number}
use Rattle.day.proofs.ReaderLaws.{tested-reads}
use Rattle.day.proofs.fields.number_at.Goals as goal

pub returns-clause-value : goal.returns-clause-value
returns-clause-value c = tested-reads is_number _ _ (rw (c.from.ensures, c.byte_at.ensures) at c.is_number.ensures) c.tested.ensures
