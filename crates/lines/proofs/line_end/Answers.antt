-- `line_end` goes by where the first line end stands.
-- Assumes nothing.
use mathlib.Core.Path.{sym}
use Rattle.lines.proofs.Parts.{ends-found, ends-nowhere}
use Rattle.lines.proofs.line_end.Goals as goal

pub returns-in-Some : goal.returns-in-Some
returns-in-Some c = ends-found c.args.chunk.now c.args.from c.in-Some.n c.requires (sym c.in-Some.ensures)

pub returns-in-None : goal.returns-in-None
returns-in-None c = ends-nowhere c.args.chunk.now c.args.from c.requires (sym c.in-None.ensures)
