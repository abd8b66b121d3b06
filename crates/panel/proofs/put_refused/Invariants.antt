-- `put_refused` writes a line for each row of the table. The loop's invariant: those of the rows before the place are written.
-- Assumes nothing.
use Rattle.panel.proofs.Rows.{Written}
use Rattle.panel.proofs.put_refused.Given as goal

abbrev pub invariant-loop-words : goal.invariant-loop-words
invariant-loop-words l = Written l.cells l.words-items l.words-index l.at l.next l.initial.out l.out
