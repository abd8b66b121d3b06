-- The word moved up and cut, and its upper part below it, are the word turned, which is small.
use native.Mathlib.Omega.{arith}
use Rattle.block.proofs.GridLoop.{turned-up-by}
use Rattle.block.proofs.turned_up.Goals as goal

pub returns : goal.returns
returns c =
    rw (c.from.ensures, c.from-2.ensures) (turned-up-by c.args.n c.args.s c.args.w (omega arith) (omega arith) c.power-all.ensures.0).0
