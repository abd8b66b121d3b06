-- A loop over all the symbols learns whether the search among them finds nothing.
use mathlib.Core.Path.{◌≡◌}
use Prim.Native.Nat.{◌-◌, ◌^◌}
use lib.Dec.{leb}
use Rattle.lora.specs.Head.{first_over}
use Rattle.lora.proofs.opening.none_over.Given as goal

abbrev pub invariant-loop-x : goal.invariant-loop-x
invariant-loop-x l = (l.m ≡ 2 ^ l.sf) × (l.none ≡ leb l.x-index (first_over l.sf l.symbols (l.x-index - 0) 0))
