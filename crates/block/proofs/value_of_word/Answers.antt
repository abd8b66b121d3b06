-- Four shifts give the XOR of a bit and all above it.
use native.Mathlib.Omega.{arith}
use Rattle.block.proofs.GrayLoop.{folded, value-folded}
use Rattle.block.proofs.value_of_word.Goals as goal

pub returns : goal.returns
unfolding folded
returns c = value-folded c.args.n c.args.w (omega arith) c.requires.1
