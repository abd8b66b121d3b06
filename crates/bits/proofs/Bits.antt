-- Laws of the bits of a number, and of the number that has given bits.
-- Assumes nothing.
use mathlib.Core.Path.{◌≡◌, refl, sym, ap, ap₂, ◌∙◌}
use mathlib.Core.Bool.{Bool}
use Prim.Native.Nat.{ℕ, zero, suc, ◌+◌, ◌-◌, ◌*◌, ◌/◌, ◌%◌, ◌^◌, ◌≤◌, ◌<◌, suc-le-suc}
use native.Mathlib.Nat.{not-suc-le-zero, le_of_suc-le-suc, zero-lt-suc, mod-lt, mod-eq_of_lt, div-one, div-eq_of_lt, pow-suc, zero-add, lt_of_lt_of_le}
use native.Mathlib.Numerals.{one-add, add-one}
use native.Mathlib.Omega.{arith}
use lib.Pow.{shr-shr, pow_mono, mod-pow-add, low}
use lib.Bits.{bit_xor, xor_step, xor_shr}
use Rattle.bits.specs.Bit.{bit, number, is_set, as_bit}
use Rattle.bits.proofs.Searches.{as_bit-le}
use Rattle.bits.proofs.Xor.{differ-mod}

pub half_pow : (w k : ℕ) → w / 2 ^ suc k ≡ w / 2 / 2 ^ k
half_pow w k = ap (λ (x : ℕ). w / 2 ^ x) (sym (one-add k)) ∙ sym (shr-shr w 1 k)

pub bit-lt : (k n : ℕ) → bit k n < 2
unfolding bit
bit-lt k n = mod-lt (n / 2 ^ k) (zero-lt-suc 1)

pub bit-number : (n : ℕ) (f : ℕ → ℕ) → ((k : ℕ) → f k < 2) → (k : ℕ) → k < n → bit k (number n f) ≡ f k
unfolding bit number
bit-number zero f b k h = absurd (not-suc-le-zero h)
bit-number (suc n) f b zero h = omega (arith, b 0)
bit-number (suc n) f b (suc k) h =
    let half : (number n (λ i. f (suc i)) * 2 + f 0) / 2 ≡ number n (λ i. f (suc i)) = omega (arith, b 0) in
    rw (half_pow, half) (bit-number n (λ i. f (suc i)) (λ i. b (suc i)) k (le_of_suc-le-suc h))

pub number_lt : (n : ℕ) (f : ℕ → ℕ) → ((k : ℕ) → f k < 2) → number n f < 2 ^ n
unfolding number
number_lt zero f b = omega arith
number_lt (suc n) f b = rw pow-suc (omega (arith, b 0, number_lt n (λ i. f (suc i)) (λ i. b (suc i))))

-- the lowest n bits of a number
pub number-mod : (n w : ℕ) → number n (λ k. bit k w) ≡ w % 2 ^ n
unfolding bit number
number-mod zero w = omega arith
number-mod (suc n) w =
    let ih : number n (λ k. w / 2 / 2 ^ k % 2) ≡ w / 2 % 2 ^ n = number-mod n (w / 2) in
    simp (half_pow, ih, div-one) (sym (rw add-one at (mod-pow-add w n 1)))

pub number_bit : (n w : ℕ) → w < 2 ^ n → number n (λ k. bit k w) ≡ w
number_bit n w h = number-mod n w ∙ mod-eq_of_lt h

pub number-cong : (n : ℕ) (f g : ℕ → ℕ) → ((k : ℕ) → k < n → f k ≡ g k) → number n f ≡ number n g
unfolding number
number-cong zero f g e = refl
number-cong (suc n) f g e =
    ap₂ (λ (x y : ℕ). x * 2 + y) (number-cong n (λ i. f (suc i)) (λ i. g (suc i)) (λ k h. e (suc k) (suc-le-suc h))) (e 0 (zero-lt-suc n))

-- two numbers below 2 ^ n with the same bits
pub same_bits : (n a b : ℕ) → a < 2 ^ n → b < 2 ^ n → ((k : ℕ) → k < n → bit k a ≡ bit k b) → a ≡ b
same_bits n a b ha hb e = sym (number_bit n a ha) ∙ number-cong n _ _ e ∙ number_bit n b hb

-- one bit more, at the bottom: how a loop whose k falls from n to 0 builds the number
module _ (f : ℕ → ℕ) where
  pub number-start : (n : ℕ) → 0 ≡ number (n - n) (λ i. f (n + i))
  unfolding number
  number-start n = let z : n - n ≡ 0 = omega arith in rw z

  pub number-back : (n k w : ℕ) → 0 < k → k ≤ n → w ≡ number (n - k) (λ i. f (k + i))
      → w * 2 + f (k - 1) ≡ number (n - (k - 1)) (λ i. f (k - 1 + i))
  unfolding number
  number-back n k w pos le e =
      let s : n - (k - 1) ≡ suc (n - k) = omega arith in
      let z : k - 1 + 0 ≡ k - 1 = omega arith in
      rw (s, z, e)
      (ap (λ (x : ℕ). x * 2 + f (k - 1)) (number-cong (n - k) _ _ (λ i h. let q : k + i ≡ k - 1 + suc i = omega arith in ap f q)))

  pub number-end : (n k : ℕ) → k ≡ 0 → number (n - k) (λ i. f (k + i)) ≡ number n f
  number-end n k e = let s : n - 0 ≡ n = omega arith in rw (e, s) (number-cong n _ _ (λ i h. ap f (zero-add i)))

  pub number_small : (n m : ℕ) → n ≤ m → ((k : ℕ) → f k < 2) → number n f < 2 ^ m
  number_small n m h b = lt_of_lt_of_le (number_lt n f b) (pow_mono h)

-- a number has no bits above its own
pub bit-above : (n w k : ℕ) → n ≤ k → w < 2 ^ n → bit k w ≡ 0
unfolding bit
bit-above n w k h l = rw (div-eq_of_lt (lt_of_lt_of_le l (pow_mono h)))

-- a bit of a number moved k places down
pub bit-down : (i k w : ℕ) → bit i (w / 2 ^ k) ≡ bit (k + i) w
unfolding bit
bit-down i k w = ap (λ (x : ℕ). x % 2) (shr-shr w k i)

-- n bits of a number from bit k on
pub number-field : (n k w : ℕ) → number n (λ i. bit (k + i) w) ≡ w / 2 ^ k % 2 ^ n
number-field n k w = number-cong n _ _ (λ i h. sym (bit-down i k w)) ∙ number-mod n (w / 2 ^ k)

-- a bits, and b bits above them
pub number-add : (a b : ℕ) (f : ℕ → ℕ) → number (a + b) f ≡ number b (λ i. f (a + i)) * 2 ^ a + number a f
unfolding number
number-add zero b f =
    let z : 0 + b ≡ b = omega arith in
    rw z (number-cong b _ _ (λ i h. ap f (sym (zero-add i))) ∙ omega arith)
number-add (suc a) b f =
    let s : suc a + b ≡ suc (a + b) = omega arith in
    let t : number b (λ i. f (suc (a + i))) ≡ number b (λ i. f (suc a + i)) = number-cong b _ _ (λ i h. ap f (omega arith)) in
    rw (s, number-add a b (λ i. f (suc i)), t, pow-suc) (omega arith)

-- of more bits the lowest n
pub number_cut : (n m : ℕ) (f : ℕ → ℕ) → n ≤ m → ((k : ℕ) → f k < 2) → number m f % 2 ^ n ≡ number n f
number_cut n m f h b =
    let s : n + (m - n) ≡ m = omega arith in
    ap (λ (x : ℕ). x % 2 ^ n) (rw s at (number-add n (m - n) f)) ∙ low _ n (number_lt n f b)

-- a bit of an XOR
pub bit-xor : (k a b : ℕ) → bit k (bit_xor a b) ≡ (bit k a + bit k b) % 2
unfolding bit
bit-xor k a b =
    let x : ℕ = a / 2 ^ k in
    let y : ℕ = b / 2 ^ k in
    let d = differ-mod (x % 2) (y % 2) (omega arith) (omega arith) in
    rw (xor_shr a b k) (omega (arith, xor_step x y, d))

-- a truth value as a bit, and a bit back from its truth value
pub as_bit-lt : (b : Bool) → as_bit b < 2
as_bit-lt b = suc-le-suc (as_bit-le b)

pub as_bit-is_set : (b : ℕ) → b < 2 → as_bit (is_set b) ≡ b
as_bit-is_set zero h = refl
as_bit-is_set (suc zero) h = refl
as_bit-is_set (suc (suc b)) h = absurd (omega arith)
