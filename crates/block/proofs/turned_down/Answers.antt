-- The word written twice and cut is the word turned, and all of it is small.
use Rattle.block.proofs.GridLoop.{turned-down-by}
use Rattle.block.proofs.turned_down.Goals as goal

pub returns : goal.returns
returns c =
    rw (c.from-once.ensures, c.from.ensures)
    (turned-down-by c.args.n c.args.s c.args.w c.requires.0 c.requires.1 c.requires.2 c.power.ensures.0).0
