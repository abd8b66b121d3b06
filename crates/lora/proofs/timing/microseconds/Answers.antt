-- The quarters of a symbol that a frame lasts, times a quarter symbol's time; no product overflows.
use native.Mathlib.Omega.{arith}
use Prim.Native.Nat.{◌+◌, ◌*◌, ◌≤◌, ◌^◌}
use lib.Pow.{pow_mono}
use Rattle.layout.proofs.LayoutLaws.{product_le}
use Rattle.lora.specs.Airtime.{dividend, microseconds}
use borrow.Author.Rules.{rules}
use Rattle.lora.proofs.timing.microseconds.Goals.{After-from-3}
use Rattle.lora.proofs.timing.microseconds.Goals as goal

small : (c : After-from-3) → (4 * (c.from.result + c.args.symbols) + 17) * c.from-3.result ≤ 265485 * 4096
small c =
    let top : 2 ^ c.from-2.result ≤ 2 ^ 12 = pow_mono {j = 12} (search rules) in
    product_le 265485 4096 (omega arith) (omega (arith, c.power.ensures.0, c.from-3.ensures))

pub overflow_mul-result : goal.overflow_mul-result
overflow_mul-result c = omega (arith, small c)

pub overflow_mul-result-2 : goal.overflow_mul-result-2
overflow_mul-result-2 c = omega (arith, small c)

pub returns : goal.returns
unfolding microseconds dividend
returns c = rw (c.from.ensures, c.from-3.ensures, c.power.ensures.0, c.from-2.ensures, c.from-4.ensures)
