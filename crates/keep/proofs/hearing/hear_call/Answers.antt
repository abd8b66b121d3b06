-- `hear_call` reads the frame, whose answer fits an entry.
-- Assumes nothing.
use Rattle.keep.proofs.ReadLaws.{read_fits}
use Rattle.keep.proofs.hearing.hear_call.Goals as goal

pub sort-requires : goal.sort-requires
sort-requires c = rw c.read-received.ensures.answer (read_fits _ _ _ _ _ _)
