-- The Gray step and its inverse.
-- Assumes nothing.
use mathlib.Core.Path.{◌≡◌, refl, sym, ap}
use mathlib.Core.Bool.{Bool, true, false, cond}
use Prim.Native.Nat.{ℕ, zero, suc, ◌+◌, ◌*◌, ◌/◌, ◌%◌, ◌^◌, ◌<◌}
use native.Mathlib.Nat.{mod-lt, mod-eq_of_lt, div-one, div-add-mod', pow-suc, zero-lt-suc}
use native.Mathlib.Omega.{arith}
use lib.Arith.{lt-one, bin_ind}
use lib.Pow.{pow-add, pow_pos}
use lib.Count.{ones, ones_step}
use Rattle.bits.specs.Bit.{number}
use Rattle.bits.proofs.Bits.{half_pow, number_lt}
use Rattle.bits.proofs.Xor.{xor-sum}
use Rattle.block.specs.Gray.{value_of_word, word_of_value, number_of_value, value_of_number}

-- the value, one bit at a time from below
value-step : (n w : ℕ) → value_of_word (suc n) w ≡ value_of_word n (w / 2) * 2 + ones w % 2
unfolding value_of_word number
value-step n w = simp (half_pow, div-one)

-- the value's lowest bit is the parity of the word
value_low : (n w : ℕ) → w < 2 ^ n → value_of_word n w % 2 ≡ ones w % 2
unfolding value_of_word number ones
value_low zero w h = rw (lt-one h)
value_low (suc n) w h = rw value-step (omega arith)

-- the word of a value, one bit at a time from below
word-step : (v : ℕ) → word_of_value v ≡ word_of_value (v / 2) * 2 + (v % 2 + v / 2 % 2) % 2
unfolding word_of_value
word-step v = xor-sum v (v / 2)

-- an XOR undone
twice : (a b : ℕ) → ((a % 2 + b) % 2 + b % 2) % 2 ≡ a % 2
twice a b = omega arith

undo : (a b c : ℕ) → c % 2 ≡ b % 2 → ((a % 2 + b % 2) % 2 + c) % 2 ≡ a % 2
undo a b c e = omega arith

-- a word comes back from its value
pub word-of-value-of-word : (n w : ℕ) → w < 2 ^ n → word_of_value (value_of_word n w) ≡ w
unfolding value_of_word number word_of_value
word-of-value-of-word zero w h = sym (lt-one h)
word-of-value-of-word (suc n) w h =
    let below : w / 2 < 2 ^ n = omega (arith, rw pow-suc at h) in
    let half : value_of_word (suc n) w / 2 ≡ value_of_word n (w / 2) = omega (arith, value-step n w) in
    let odd : value_of_word (suc n) w % 2 ≡ (w % 2 + ones (w / 2)) % 2 = rw (value-step, ones_step w) (omega arith) in
    rw (word-step (value_of_word (suc n) w), half, odd, word-of-value-of-word n (w / 2) below, value_low n (w / 2) below, twice) (div-add-mod' w 2)

-- the parity of a value's word is the value's lowest bit
ones-word : (v : ℕ) → ones (word_of_value v) % 2 ≡ v % 2
unfolding ones word_of_value
ones-word = bin_ind (λ (n : ℕ). ones (word_of_value n) % 2 ≡ n % 2) refl
    (λ n ih. let half : word_of_value n / 2 ≡ word_of_value (n / 2) = omega (arith, word-step n) in
    let odd : word_of_value n % 2 ≡ (n % 2 + n / 2 % 2) % 2 = omega (arith, word-step n) in
    rw (ones_step (word_of_value n), half, odd) (undo n (n / 2) (ones (word_of_value (n / 2))) ih))

-- a value comes back from its word
pub value-of-word-of-value : (n v : ℕ) → v < 2 ^ n → value_of_word n (word_of_value v) ≡ v
unfolding value_of_word number
value-of-word-of-value zero v h = sym (lt-one h)
value-of-word-of-value (suc n) v h =
    let below : v / 2 < 2 ^ n = omega (arith, rw pow-suc at h) in
    let half : word_of_value v / 2 ≡ word_of_value (v / 2) = omega (arith, word-step v) in
    omega (arith, value-step n (word_of_value v), ap (value_of_word n) half, value-of-word-of-value n (v / 2) below, ones-word v)

-- a value has n bits
pub value-lt : (n w : ℕ) → value_of_word n w < 2 ^ n
unfolding value_of_word
value-lt n w = number_lt n _ (λ k. mod-lt (ones (w / 2 ^ k)) (zero-lt-suc 1))

-- a value comes back from its symbol number
pub value-of-number-of-value : (n : ℕ) (wide : Bool) (v : ℕ) → v < 2 ^ n → value_of_number n wide (number_of_value wide v) ≡ v
unfolding value_of_number number_of_value
value-of-number-of-value n false v h = refl
value-of-number-of-value n true v h =
    let e : (4 * v + 2) / 4 ≡ v = omega arith in
    rw e (mod-eq_of_lt h)

-- a value that is read at the four-wide spacing has n bits
pub value-of-number-lt : (n s : ℕ) → value_of_number n true s < 2 ^ n
unfolding value_of_number
value-of-number-lt n s = mod-lt ((s + 2) / 4) (pow_pos n)

-- a symbol number has n bits, at the four-wide spacing two more
pub number-of-value-lt : (n : ℕ) (wide : Bool) (v : ℕ) → v < 2 ^ n → number_of_value wide v < 2 ^ cond wide (n + 2) n
unfolding number_of_value
number-of-value-lt n false v h = h
number-of-value-lt n true v h = rw (pow-add 2 n 2) (omega arith)
