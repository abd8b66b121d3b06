-- `put_fields` writes the symbols' fields. The loop's invariant: those of the symbols before the place are written.
-- Assumes nothing.
use Prim.Native.Nat.{◌≤◌, ◌+◌, ◌*◌}
use lib.ListN.{take}
use Rattle.put.specs.Put.{Put}
use Rattle.wish.specs.Wish.{fields}
use Rattle.wish.proofs.put_fields.Given as goal

abbrev pub invariant-loop-symbol : goal.invariant-loop-symbol
invariant-loop-symbol l = (l.next ≤ l.at + 21 * l.symbol-index) × Put l.at (fields (take l.symbol-index l.symbols)) l.initial.out l.out l.next
