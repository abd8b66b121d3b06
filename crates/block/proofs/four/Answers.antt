-- The product brings the four bits together and overflows nowhere.
use Rattle.block.proofs.GridLoop.{gathered}
use borrow.Author.Rules.{rules}
use Rattle.block.proofs.four.Goals as goal

pub returns : goal.returns
returns c = (rw (c.from.ensures, c.from-2.ensures, c.from-3.ensures, c.from-4.ensures) (gathered c.args.a c.args.b c.args.c c.args.d), search rules)
