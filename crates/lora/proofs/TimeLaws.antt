-- The time on air is always whole.
-- Assumes nothing.
use mathlib.Core.Path.{◌≡◌, refl, ap, ◌∙◌}
use mathlib.Core.Bool.{Bool, true, false, ◌||◌}
use Prim.Native.Nat.{ℕ, suc, ◌+◌, ◌-◌, ◌*◌, ◌%◌, ◌^◌, ◌≤◌}
use native.Mathlib.Nat.{pow-suc, mul-mod_left, mul_assoc}
use native.Mathlib.Omega.{arith}
use lib.Dec.{eqb}
use borrow.Author.Tests.{eqb-true}
use Rattle.lora.specs.Airtime.{valid_bandwidth, dividend}

-- 250 x 2^SF is a multiple of 500, and so of 250 and 125
multiple : (sf n S : ℕ) → 7 ≤ sf → dividend sf n S ≡ (4 * (n + S) + 17) * 2 ^ (sf - 1) * 500
unfolding dividend
multiple sf n S h =
    let e : sf ≡ suc (sf - 1) = omega arith in
    ap (λ (k : ℕ). (4 * (n + S) + 17) * 2 ^ k * 250) e ∙ rw pow-suc (omega arith)

pub whole : (sf n S khz : ℕ) → 7 ≤ sf → valid_bandwidth khz ≡ true → dividend sf n S % khz ≡ 0
unfolding valid_bandwidth
whole sf n S khz h e = one (eqb khz 125) (eqb khz 250) refl refl e
  where
    chirps : ℕ
    chirps = (4 * (n + S) + 17) * 2 ^ (sf - 1)

    times : (q k : ℕ) → q * k ≡ 500 → khz ≡ k → dividend sf n S % khz ≡ 0
    times q k p f = rw (multiple sf n S h, ← p, f, ← mul_assoc) (mul-mod_left (chirps * q) k)

    one : (a b : Bool) → eqb khz 125 ≡ a → eqb khz 250 ≡ b → a || (b || eqb khz 500) ≡ true → dividend sf n S % khz ≡ 0
    one true b p q r = times 4 125 refl (eqb-true khz 125 p)
    one false true p q r = times 2 250 refl (eqb-true khz 250 q)
    one false false p q r = times 1 500 refl (eqb-true khz 500 r)
