-- The difference, taken in 16 bits, fits in 8.
use mathlib.Core.Path.{◌≡◌}
use native.Mathlib.Omega.{arith}
use lib.IntN.{pos, ◌-ℤ◌}
use mir.Facts.{to_z-of_z}
use mir.Syntax.{w8, w16}
use mir.Val.{SFits, to_z}
use Rattle.drift.proofs.Differences.{taken, taken-fits, narrow-fits}
use Rattle.drift.proofs.difference.Goals.{Start}
use Rattle.drift.proofs.difference.Goals as goal

same : (c : Start) → to_z w16 c.args.a -ℤ to_z w16 c.args.b ≡ pos c.args.a -ℤ pos c.args.b
same c = taken c.args.a c.args.b c.requires.2 c.requires.3

fits : (c : Start) → SFits w8 (pos c.args.a -ℤ pos c.args.b)
fits c = narrow-fits c.args.a c.args.b (omega (arith, c.requires.0)) (omega (arith, c.requires.1))

pub overflow_sub-result : goal.overflow_sub-result
overflow_sub-result c = taken-fits c.args.a c.args.b c.requires.2 c.requires.3

pub overflow_cast-result-3 : goal.overflow_cast-result-3
overflow_cast-result-3 c = rw (to_z-of_z (overflow_sub-result c), same c) (fits c)

pub returns : goal.returns
returns c = rw (to_z-of_z (overflow_sub-result c), same c) (to_z-of_z (fits c))
