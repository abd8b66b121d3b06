-- Block 0, or one behind it, with no overflow in its first codeword and symbol.
use Prim.Native.Nat.{◌*◌, ◌-◌, ◌+◌, ◌≤◌}
use native.Mathlib.Omega.{arith}
use Rattle.layout.specs.Layout.{block_of, rows_of_first}
use Rattle.layout.proofs.LayoutLaws.{rows-range, product_le, block-later}
use Rattle.layout.proofs.block_at.Goals.{After-rows_of_later-rows, After-from}
use Rattle.layout.proofs.block_at.Goals as goal

rows-small : (c : After-rows_of_later-rows) → c.rows_of_later-rows.result * (c.args.b - 1) ≤ 12 * 255
rows-small c =
    let p = c.requires in
    product_le 12 255 (rw c.rows_of_later-rows.ensures (rows-range _ p.0).1) (omega arith)

columns-small : (c : After-from) → (c.from.result + 4) * (c.args.b - 1) ≤ 8 * 255
columns-small c = product_le 8 255 (omega arith) (omega arith)

pub returns-then-b-eq0 : goal.returns-then-b-eq0
unfolding block_of
returns-then-b-eq0 c = rw (c.if-b-eq0.true, c.first_block.ensures)

pub overflow_mul-result : goal.overflow_mul-result
overflow_mul-result c = omega (arith, rows-small c)

pub overflow_add-result : goal.overflow_add-result
unfolding rows_of_first
overflow_add-result c = omega (arith, rows-small c)

pub overflow_mul-result-2 : goal.overflow_mul-result-2
overflow_mul-result-2 c = omega (arith, columns-small c)

pub overflow_add-result-3 : goal.overflow_add-result-3
overflow_add-result-3 c = omega (arith, columns-small c)

pub returns : goal.returns
returns c =
    rw (block-later c.args.f c.args.b (omega arith), c.rows_of_first-first_rows.ensures, c.from.ensures, c.rows_of_later-rows.ensures)
