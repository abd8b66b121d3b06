-- The checks of the frame's room and symbols, then its data, from the first codeword on.
use native.Mathlib.Omega.{arith}
use Rattle.layout.proofs.LayoutLaws.{symbols-ge}
use Rattle.lora.proofs.ReadLaws.{unheaded}
use Rattle.lora.proofs.receiving.read_bare.Goals as goal

pub first_grid-requires : goal.first_grid-requires
first_grid-requires c =
    let shape = c.args.shape in
    let (fits, lists, there, below, is) = c.in_ok-admit.ensures in
    (shape.valid.sf-low, shape.valid.sf-high, omega (arith, there, symbols-ge shape.frame shape.len))

pub deliver-requires : goal.deliver-requires
deliver-requires c =
    let shape = c.args.shape in
    let (fits, lists, there, below, is) = c.in_ok-admit.ensures in (
      record {
        headed = unheaded shape.frame _ c.requires c.first_grid.ensures;
        there = omega (arith, shape.whole, there);
        below = rw shape.whole below;
      },
      fits,
      omega (arith, shape.whole, lists),
    )
