-- The sum, or 17.
use Rattle.std.proofs.Common.{◌≡◌, Bool, true, false, cond, None, Some, Ok, Err, refl}
use Rattle.std.specs.Option.{ok_or}
use Rattle.bits.specs.Check.{check}
use Rattle.tally.specs.Tally.{join_of, take_in_of}
use Rattle.tally.proofs.taking.Goals as goal

either : {T E : Type 0} (b : Bool) (t : T) (e : E) → ok_or (cond b (Some t) None) e ≡ check b (Err e) (Ok t)
either true t e = refl
either false t e = refl

pub returns : goal.returns
unfolding take_in_of join_of
returns c = rw (c.ok_or.ensures.value, c.plus.ensures) (either _ _ _)
