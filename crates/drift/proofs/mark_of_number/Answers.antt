-- The mark is the number of the value.
use Prim.Native.Nat.{◌-◌, ◌^◌, ◌≤◌}
use native.Mathlib.Omega.{arith}
use lib.Pow.{pow_mono}
use Rattle.block.proofs.GrayLaws.{value-of-number-lt}
use Rattle.drift.specs.Drift.{mark_of}
use Rattle.drift.proofs.mark_of_number.Goals as goal

pub number_of_value-requires : goal.number_of_value-requires
number_of_value-requires c =
    let ten : c.from-n.result - 2 ≤ 10 = omega (arith, c.from-n.ensures, c.requires.1) in
    let few : 2 ^ (c.from-n.result - 2) ≤ 2 ^ 10 = pow_mono ten in
    omega (arith, c.value_of_number.ensures, few, value-of-number-lt (c.from-n.result - 2) c.args.s)
