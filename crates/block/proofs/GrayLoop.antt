-- The value of a word by four shifts.
-- Assumes nothing.
use mathlib.Core.Path.{◌≡◌, refl, sym, ap, ◌∙◌}
use Prim.Native.Nat.{ℕ, ◌+◌, ◌/◌, ◌%◌, ◌^◌, ◌≤◌, ◌<◌}
use native.Mathlib.Nat.{div-eq_of_lt, lt_of_lt_of_le, lt_of_le_of_lt}
use native.Mathlib.Omega.{arith}
use lib.Pow.{pow_mono, shr_le}
use lib.Bits.{bit_xor, xor_lt, xor_zero_r}
use Rattle.bits.specs.Bit.{bit}
use Rattle.bits.proofs.Bits.{bit-down, bit-xor, same_bits}
use Rattle.block.specs.Gray.{value_of_word, word_of_value}
use Rattle.block.proofs.GrayLaws.{value-of-word-of-value}

-- a number XORed with itself, m places down
unfoldable pub folded : ℕ → ℕ → ℕ
folded m a = bit_xor a (a / 2 ^ m)

folded-lt : (n m a : ℕ) → a < 2 ^ n → folded m a < 2 ^ n
unfolding folded
folded-lt n m a h = xor_lt n a (a / 2 ^ m) h (lt_of_le_of_lt (shr_le a m) h)

bit-folded : (k m a : ℕ) → bit k (folded m a) ≡ (bit k a + bit (m + k) a) % 2
unfolding folded
bit-folded k m a = bit-xor k a (a / 2 ^ m) ∙ ap (λ (x : ℕ). (bit k a + x) % 2) (bit-down k m a)

-- twice the same fold is one of twice as many places
folded-twice : (n m a : ℕ) → a < 2 ^ n → folded m (folded m a) ≡ folded (m + m) a
folded-twice n m a h = same_bits n _ _ (folded-lt n m _ (folded-lt n m a h)) (folded-lt n (m + m) a h) (λ k l. at k)
  where
    sums : (x y z : ℕ) → ((x + y) % 2 + (y + z) % 2) % 2 ≡ (x + z) % 2
    sums x y z = omega arith

    at : (k : ℕ) → bit k (folded m (folded m a)) ≡ bit k (folded (m + m) a)
    at k =
        let e : m + m + k ≡ m + (m + k) = omega arith in
        rw (bit-folded k m (folded m a), bit-folded k m a, bit-folded (m + k) m a, bit-folded k (m + m) a, e) (sums _ _ _)

-- the order of two folds does not matter
folded-swap : (n m l a : ℕ) → a < 2 ^ n → folded m (folded l a) ≡ folded l (folded m a)
folded-swap n m l a h = same_bits n _ _ (folded-lt n m _ (folded-lt n l a h)) (folded-lt n l _ (folded-lt n m a h)) (λ k s. at k)
  where
    two : (x y : ℕ) → (x % 2 + y % 2) % 2 ≡ (x + y) % 2
    two x y = omega arith

    swap : (x y z w : ℕ) → x + y + (z + w) ≡ x + z + (y + w)
    swap x y z w = omega arith

    sums : (x y z w : ℕ) → ((x + y) % 2 + (z + w) % 2) % 2 ≡ ((x + z) % 2 + (y + w) % 2) % 2
    sums x y z w = two (x + y) (z + w) ∙ ap (λ (s : ℕ). s % 2) (swap x y z w) ∙ sym (two (x + z) (y + w))

    at : (k : ℕ) → bit k (folded m (folded l a)) ≡ bit k (folded l (folded m a))
    at k =
        let e : l + (m + k) ≡ m + (l + k) = omega arith in
        rw (bit-folded k m (folded l a), bit-folded k l a, bit-folded (m + k) l a, bit-folded k l (folded m a), bit-folded k m a, bit-folded (l + k) m a, e)
        (sums _ _ _ _)

-- nothing stands so far up
folded-none : (n m a : ℕ) → n ≤ m → a < 2 ^ n → folded m a ≡ a
unfolding folded
folded-none n m a l h = rw (div-eq_of_lt (lt_of_lt_of_le h (pow_mono l))) (xor_zero_r a)

word-folded : (v : ℕ) → word_of_value v ≡ folded 1 v
unfolding folded word_of_value
word-folded v = refl

-- the value of a word of at most 16 bits
pub value-folded : (n w : ℕ) → n ≤ 16 → w < 2 ^ n → folded 8 (folded 4 (folded 2 (folded 1 w))) ≡ value_of_word n w
value-folded n w small h =
    let h1 = folded-lt n 1 w h in
    let h2 = folded-lt n 2 _ h1 in
    let h4 = folded-lt n 4 _ h2 in
    let back : folded 1 (folded 8 (folded 4 (folded 2 (folded 1 w)))) ≡ w
    = rw (folded-swap n 1 8 (folded 4 (folded 2 (folded 1 w))) h4, folded-swap n 1 4 (folded 2 (folded 1 w)) h2, folded-swap n 1 2 (folded 1 w) h1, folded-twice n 1 w h, folded-twice n 2 w h, folded-twice n 4 w h, folded-twice n 8 w h)
    (folded-none n 16 w small h) in
    sym (ap (value_of_word n) (sym (word-folded _ ∙ back)) ∙ value-of-word-of-value n _ (folded-lt n 8 _ h4))
