-- Each row that can be read adds its nibble and its flip, or is counted as having none; the first that can't ends the run: a loop
-- over the rows. The repairs are the rows that were not counted so.
use Prim.Native.Nat.{ℕ, ◌+◌}
use mathlib.Core.Path.{◌≡◌}
use mathlib.Core.Bool.{Bool}
use mathlib.Core.List.{List}
use lib.Dec.{eqb}
use Rattle.bits.specs.Search.{how_many}
use Rattle.bits.proofs.Fill.{Filled}
use Rattle.codeword.specs.Codeword.{flipped_bit}
use Rattle.reading.specs.Found.{repaired_at, nibble_at}
use Rattle.reading.specs.Stages.{read_row, rows_from, flips}
use Rattle.reading.proofs.ReadLoop.{Clear}
use Rattle.reading.proofs.read_rows.Given as goal

-- of the first i rows how many are repaired, and how many have no flip
abbrev pub repairs : ℕ → List (List Bool) → ℕ → ℕ → ℕ
repairs rate g from i = how_many (repaired_at (rows_from rate g from)) i

abbrev pub unflipped : ℕ → List (List Bool) → ℕ → ℕ → ℕ
unflipped rate g from i = how_many (λ k. eqb (flipped_bit (rows_from rate g from k)) 8) i

abbrev pub invariant-loop-i : goal.invariant-loop-i
invariant-loop-i l = (l.clean ≡ unflipped l.rate l.g l.from l.i) × Clear (rows_from l.rate l.g l.from) l.i (repairs l.rate l.g l.from l.i)
    × Filled (nibble_at (rows_from l.rate l.g l.from)) l.initial.cell-items l.i l.cell-items × (l.flips ≡ flips (read_row l.rate l.g) (l.from + l.i))
