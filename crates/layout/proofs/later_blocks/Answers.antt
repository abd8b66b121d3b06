-- The nibbles that remain after block 0, divided by the rows of a block and rounded up.
use native.Mathlib.Omega.{arith}
use mathlib.Core.Path.{sym}
use Rattle.layout.specs.Layout.{later_blocks, remaining, rows_of_first}
use Rattle.layout.proofs.LayoutLaws.{rows-range, no-later}
use Rattle.layout.proofs.later_blocks.Goals as goal

pub overflow_sub-result-else-nibbles-first_rows : goal.overflow_sub-result-else-nibbles-first_rows
overflow_sub-result-else-nibbles-first_rows c = omega (arith, c.rows_of_later-rows.ensures, rows-range _ c.requires.0)

pub overflow_add-result : goal.overflow_add-result
overflow_add-result c = omega (arith, c.rows_of_later-rows.ensures, rows-range _ c.requires.0)

pub nonzero_div-result : goal.nonzero_div-result
nonzero_div-result c = omega (arith, c.rows_of_later-rows.ensures, rows-range _ c.requires.0)

pub returns-then-nibbles-first_rows : goal.returns-then-nibbles-first_rows
unfolding rows_of_first
returns-then-nibbles-first_rows c = sym (no-later _ _ c.requires.0 (omega arith))

pub returns-else-nibbles-first_rows : goal.returns-else-nibbles-first_rows
unfolding later_blocks remaining
returns-else-nibbles-first_rows c = rw (c.rows_of_later-rows.ensures, c.rows_of_first-first_rows.ensures)
