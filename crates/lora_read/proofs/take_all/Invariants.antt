-- `take_all` takes a text whole, or fails.
-- Assumes nothing.
use mathlib.Core.List.{List}
use mathlib.Core.Path.{◌≡◌}
use Prim.Native.Nat.{ℕ}
use Rattle.text.specs.Scan.{start, run}
use Rattle.lora_read.proofs.take_all.Given as goal

abbrev pub invariant-loop : goal.invariant-loop
invariant-loop l = (bytes : List ℕ) × (l.scan ≡ run start bytes)
