-- Nothing but separators stands before the place, and they change nothing.
-- Assumes nothing.
use Rattle.std.proofs.Common.{◌≡◌, take}
use Rattle.capture.specs.Scan.{run}
use Rattle.capture.proofs.Scan.take_front.Given as goal

abbrev pub invariant-loop-i : goal.invariant-loop-i
invariant-loop-i l = (l.self ≡ l.initial.self) × (run l.initial.self (take l.i l.piece) ≡ l.initial.self)
