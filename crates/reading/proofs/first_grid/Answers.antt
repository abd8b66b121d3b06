-- The grid of block 0, which is as blocks are.
use native.Mathlib.Omega.{arith}
use Rattle.layout.specs.Layout.{first_block}
use Rattle.reading.proofs.RowLaws.{first_fits}
use Rattle.reading.proofs.first_grid.Goals as goal

pub grid_of_block-requires : goal.grid_of_block-requires
unfolding first_block
grid_of_block-requires c =
    let p = c.requires in
    (rw c.first_block.ensures (first_fits _ p.0 p.1), rw c.first_block.ensures (omega (arith, p.2)))
