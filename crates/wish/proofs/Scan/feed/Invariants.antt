-- The bytes before the place are taken.
-- Assumes nothing.
use Rattle.std.proofs.Common.{◌≡◌, take}
use Rattle.wish.specs.Scan.{run}
use Rattle.wish.proofs.Scan.feed.Given as goal

abbrev pub invariant-loop-b : goal.invariant-loop-b
invariant-loop-b l = l.self ≡ run l.initial.self (take l.b-index l.piece)
