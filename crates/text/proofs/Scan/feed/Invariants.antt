-- The bytes before the place are taken.
use Rattle.std.proofs.Common.{◌≡◌, take}
use Rattle.text.specs.Scan.{run}
use Rattle.text.proofs.Scan.feed.Given as goal

abbrev pub invariant-loop-b : goal.invariant-loop-b
invariant-loop-b l = l.self ≡ run l.initial.self (take l.b-index l.piece)
