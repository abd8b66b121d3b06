-- The checks of the frame's room and symbols, then its data.
use native.Mathlib.Omega.{arith}
use Rattle.lora.proofs.receiving.read_body.Goals as goal

pub deliver-requires : goal.deliver-requires
deliver-requires c =
    let shape = c.args.shape in
    let (fits, lists, there, below, is) = c.in_ok-admit.ensures in
    (record { headed = c.requires; there = omega (arith, shape.whole, there); below = rw shape.whole below }, fits, omega (arith, shape.whole, lists))
