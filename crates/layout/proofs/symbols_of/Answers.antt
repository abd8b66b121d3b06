-- Eight symbols of block 0, and CR + 4 for each block behind it.
use native.Mathlib.Omega.{arith}
use Prim.Native.Nat.{◌+◌, ◌*◌, ◌≤◌}
use Rattle.layout.specs.Layout.{symbols_of, symbol_count}
use Rattle.layout.proofs.LayoutLaws.{product_le, later-le, nibbles-le}
use Rattle.layout.proofs.symbols_of.Goals.{After-later_blocks, After-nibbles_of}
use Rattle.layout.proofs.symbols_of.Goals as goal

few : (c : After-nibbles_of) → c.nibbles_of.result ≤ 519
few c = rw c.nibbles_of.ensures (nibbles-le _ _ c.requires.0 c.requires.1)

small : (c : After-later_blocks) → (c.from.result + 4) * c.later_blocks.result ≤ 8 * 103
small c =
    let v = c.requires.0 in
    product_le 8 103 (omega (arith, c.from.ensures, v.cr-high)) (rw c.later_blocks.ensures (later-le _ _ v (few c.before)))

pub later_blocks-requires : goal.later_blocks-requires
later_blocks-requires c = (c.requires.0, few c)

pub overflow_mul-result : goal.overflow_mul-result
overflow_mul-result c = omega (arith, small c)

pub overflow_add-result-2 : goal.overflow_add-result-2
overflow_add-result-2 c = omega (arith, small c)

pub returns : goal.returns
unfolding symbols_of symbol_count
returns c = rw (c.from.ensures, c.later_blocks.ensures, c.nibbles_of.ensures)
