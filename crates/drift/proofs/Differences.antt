-- Differences of natural numbers, with their sign.
-- Assumes nothing.
use mathlib.Core.Path.{◌≡◌, refl, sym, ap, ap₂, ◌∙◌}
use mathlib.Core.Bool.{Bool, true, false, cond}
use Prim.Native.Nat.{ℕ, zero, suc, ◌+◌, ◌-◌, ◌≤◌, ◌<◌}
use native.Mathlib.Decide.{dec_lt}
use native.Mathlib.Omega.{arith}
use lib.Dec.{ltb}
use lib.IntN.{ℤ, pos, negsuc, ◌-ℤ◌}
use lib.Signed.{mag}
use borrow.Author.Rules.{sfits_of}
use borrow.Author.Tests.{ltb-true, ltb-false, lt-ltb, le-ltb}
use mir.Facts.{to_z_pos}
use mir.Syntax.{w8, w16}
use mir.Val.{SFits, to_z}

-- a less b, where b is at most a, and where it is more
pub minus-up : (a b : ℕ) → b ≤ a → pos a -ℤ pos b ≡ pos (a - b)
minus-up a zero h = ap pos (omega arith)
minus-up a (suc b) h = rw (le-ltb a (suc b) h)

minus-down : (a b : ℕ) → a < b → pos a -ℤ pos b ≡ negsuc (b - suc a)
minus-down a zero h = absurd (omega arith)
minus-down a (suc b) h = rw (lt-ltb a (suc b) h)

-- two pairs of the same difference
pub minus-same : (a b x y : ℕ) → a + y ≡ x + b → pos a -ℤ pos b ≡ pos x -ℤ pos y
minus-same a b x y e = by (dec_lt a b)
  where
    by : Dec (a < b) → pos a -ℤ pos b ≡ pos x -ℤ pos y
    by (yes l) =
        let less : b - suc a ≡ y - suc x = omega arith in
        minus-down a b l ∙ ap negsuc less ∙ sym (minus-down x y (omega arith))
    by (no l) =
        let more : a - b ≡ x - y = omega arith in
        minus-up a b (omega arith) ∙ ap pos more ∙ sym (minus-up x y (omega arith))

-- numbers near each other have a small one
near : (a b k : ℕ) → a < b + k → b < a + k → mag (pos a -ℤ pos b) < k
near a zero k h l = omega arith
near a (suc b) k h l = by (ltb a (suc b)) refl
  where
    by : (t : Bool) → ltb a (suc b) ≡ t → mag (cond t (negsuc (suc b - suc a)) (pos (a - suc b))) < k
    by true e = omega (arith, ltb-true a (suc b) e)
    by false e = omega (arith, ltb-false a (suc b) e)

-- taken in 16 bits, and brought to 8
module _ (a b : ℕ) (ha : a < 32768) (hb : b < 32768) where
  pub taken : to_z w16 a -ℤ to_z w16 b ≡ pos a -ℤ pos b
  taken = ap₂ (λ (x y : ℤ). x -ℤ y) (to_z_pos w16 ha) (to_z_pos w16 hb)

  pub taken-fits : SFits w16 (to_z w16 a -ℤ to_z w16 b)
  taken-fits = rw taken (sfits_of (near a b 32768 (omega arith) (omega arith)))

pub narrow-fits : (a b : ℕ) → a < b + 128 → b < a + 128 → SFits w8 (pos a -ℤ pos b)
narrow-fits a b h l = sfits_of (near a b 128 h l)
