-- Accepted with no repairs, with some, refused under its number, which is below 13.
use Rattle.std.proofs.Common.{◌≤◌, arith}
use borrow.Author.Tests.{ne_eqb, lt-ltb}
use Rattle.bits.specs.Tab.{blank, tab}
use Rattle.tally.specs.Tally.{one, empty}
use Rattle.tally.proofs.HistoryLaws.{at-most-12}
use Rattle.tally.proofs.RoomLaws.{one_in}
use Rattle.tally.proofs.single.Goals.{After-from}
use Rattle.tally.proofs.single.Goals as goal

below : (c : After-from) → c.in-Err.r.number ≤ 12
below c = at-most-12 _ (rw c.in-Err.is at c.requires)

pub bounds-t-from : goal.bounds-t-from
bounds-t-from c = omega (arith, below c)

pub returns-in-Ok : goal.returns-in-Ok
unfolding one empty blank tab
returns-in-Ok c = rw (c.in-Ok.is, c.none.ensures, c.if-a-eq0.true)

pub returns-in-Ok-2 : goal.returns-in-Ok-2
unfolding one empty blank tab
returns-in-Ok-2 c = rw (c.in-Ok.is, c.none.ensures, ne_eqb _ _ c.if-a-eq0.false, lt-ltb 0 c.in-Ok.a.repairs (omega arith))

pub returns-in-Err : goal.returns-in-Err
unfolding one empty
returns-in-Err c = rw (c.in-Err.is, c.none.ensures, c.from.ensures, one_in 13 c.in-Err.r.number (omega (arith, below c)))
