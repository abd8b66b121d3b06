-- The first len bytes are whitened by the table, and the table has the bytes of the rule: a loop that fills.
-- Assumes nothing.
use lib.ListN.{get_or}
use Rattle.bits.proofs.Fill.{Filled}
use Rattle.whitening.specs.Whitening.{whitened}
use Rattle.whitening.proofs.whiten.Given as goal

abbrev pub invariant-loop-p : goal.invariant-loop-p
invariant-loop-p l = Filled (whitened (λ i. get_or l.fn.bytes i 0)) l.initial.byte-items l.p l.byte-items
