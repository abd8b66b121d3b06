-- `say_refused` hands the line over.
-- Assumes nothing.
use native.Mathlib.Omega.{arith}
use mathlib.Core.List.{[]}
use Rattle.std.specs.Prelude.{Err}
use Rattle.line.proofs.LineLaws.{line-length}
use borrow.Author.Rules.{rules}
use Rattle.day_keep.proofs.say_refused.Goals as goal

pub write_first-requires : goal.write_first-requires
write_first-requires c = let e = c.write_line-n.ensures in omega (arith, e.0, line-length (Err c.args.refusal) [] (search rules))
