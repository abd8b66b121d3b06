-- Laws of hex digits, as the code reads them.
-- Assumes nothing.
use mathlib.Core.Path.{◌≡◌, refl}
use mathlib.Core.Bool.{Bool, true, false, ◌&&◌, ◌||◌, cond, and-false, and-eq-true_iff}
use Prim.Native.Nat.{ℕ, ◌-◌, ◌<◌, ◌≤◌}
use native.Mathlib.Omega.{arith}
use borrow.Author.Tests.{leb-true, le-leb, lt-leb}
use lib.Dec.{leb}
use Rattle.std.specs.Prelude.{Some, None}
use Rattle.wish.specs.Wish.{is_hex, hex_value}
use Rattle.wish.specs.Scan.{digit_of}

pub hex-small : (b : ℕ) → is_hex b ≡ true → hex_value b < 16
hex-small b p = first (leb b 57) refl p
  where
    second : (t : Bool) → leb b 70 ≡ t → (leb 65 b && t) || (leb 97 b && leb b 102) ≡ true → cond t (b - 55) (b - 87) < 16
    second true e q = omega (arith, leb-true b 70 e)
    second false e q = omega (arith, leb-true b 102 ((and-eq-true_iff (leb 97 b) (leb b 102)).0 (rw (and-false (leb 65 b)) at q)).1)

    first : (t : Bool) → leb b 57 ≡ t → (leb 48 b && t) || ((leb 65 b && leb b 70) || (leb 97 b && leb b 102)) ≡ true
        → cond t (b - 48) (cond (leb b 70) (b - 55) (b - 87)) < 16
    first true e q = omega (arith, leb-true b 57 e)
    first false e q = second (leb b 70) refl (rw (and-false (leb 48 b)) at q)

-- the code's value of a digit
pub record Digit (b value : ℕ) : Type 0 where
  pub hex : is_hex b ≡ true
  pub is : value ≡ hex_value b
  pub small : value < 16

pub some-digit : (b value : ℕ) → Some value ≡ digit_of b → Digit b value
some-digit b value e = go (is_hex b) refl e
  where
    go : (t : Bool) → is_hex b ≡ t → Some value ≡ cond t (Some (hex_value b)) None → Digit b value
    go true p q = let v : value ≡ hex_value b = cc in record { hex = p; is = v; small = omega (arith, v, hex-small b p) }
    go false p q = cc

pub no-digit : (b : ℕ) → None ≡ digit_of b → is_hex b ≡ false
no-digit b e = go (is_hex b) e
  where
    go : (t : Bool) → None ≡ cond t (Some (hex_value b)) None → t ≡ false
    go true q = cc
    go false q = refl
