-- What the check of a file tells of it.
-- Assumes nothing.
use mathlib.Core.Path.{◌≡◌, refl}
use Rattle.std.specs.Prelude.{Ok}
use Rattle.day.specs.Day.{Day}
use Rattle.day.specs.Script.{Judged, taken, refused}
use Rattle.day.specs.Stages.{verdict}
use Rattle.day.specs.declared.Taken.{Taken}

-- bytes that the check takes are a file of some day
pub taken-day : (j : Judged Day) (t : Taken) → verdict j ≡ Ok t → (d : Day) × (j ≡ taken d)
unfolding verdict
taken-day (taken d) t e = (d, refl)
taken-day (refused number place) t e = cc
