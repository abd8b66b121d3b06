-- A tally of nothing.
use Rattle.tally.specs.Tally.{empty}
use mathlib.Core.Path.{refl}
use Rattle.bits.specs.Tab.{blank}
use Rattle.tally.proofs.none.Goals as goal

pub returns : goal.returns
unfolding empty blank
returns c = refl
