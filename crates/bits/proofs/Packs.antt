-- Laws of the bytes of a number.
-- Assumes nothing.
use mathlib.Core.Path.{◌≡◌, refl}
use Prim.Native.Nat.{ℕ, zero, suc, ◌+◌, ◌*◌, ◌/◌, ◌^◌, ◌<◌}
use native.Mathlib.Nat.{pow-suc, le_of_suc-le-suc}
use native.Mathlib.Omega.{arith}
use Rattle.bits.specs.Bytes.{byte_at, packed}

pub packed_lt : (n : ℕ) (f : ℕ → ℕ) → ((k : ℕ) → f k < 256) → packed n f < 256 ^ n
unfolding packed
packed_lt zero f b = omega arith
packed_lt (suc n) f b = rw pow-suc (omega (arith, b 0, packed_lt n (λ k. f (suc k)) (λ k. b (suc k))))

pub byte-packed : (n : ℕ) (f : ℕ → ℕ) → ((k : ℕ) → f k < 256) → (k : ℕ) → k < n → byte_at k (packed n f) ≡ f k
unfolding packed byte_at
byte-packed zero f b k h = absurd (omega arith)
byte-packed (suc n) f b zero h = omega (arith, b 0)
byte-packed (suc n) f b (suc k) h =
    let rest : (packed n (λ i. f (suc i)) * 256 + f 0) / 256 ≡ packed n (λ i. f (suc i)) = omega (arith, b 0) in
    rw rest (byte-packed n (λ i. f (suc i)) (λ i. b (suc i)) k (le_of_suc-le-suc h))

pub packed-add : (n : ℕ) (f g : ℕ → ℕ) → packed n f + packed n g ≡ packed n (λ k. f k + g k)
unfolding packed
packed-add zero f g = refl
packed-add (suc n) f g = omega (arith, packed-add n (λ k. f (suc k)) (λ k. g (suc k)))

pub packed-cong : (n : ℕ) (f g : ℕ → ℕ) → ((k : ℕ) → k < n → f k ≡ g k) → packed n f ≡ packed n g
unfolding packed
packed-cong zero f g e = refl
packed-cong (suc n) f g e = omega (arith, e 0 (omega arith), packed-cong n (λ k. f (suc k)) (λ k. g (suc k)) (λ k h. e (suc k) (omega arith)))
