-- Places round a circle of n, and the bits of a word turned round.
-- Assumes nothing.
use mathlib.Core.Path.{◌≡◌, sym, ap, ap₂, ◌∙◌}
use Prim.Native.Nat.{ℕ, ◌+◌, ◌-◌, ◌*◌, ◌/◌, ◌%◌, ◌^◌, ◌≤◌, ◌<◌}
use native.Mathlib.Nat.{mod-lt, mod-eq_of_lt, mod-eq-sub-mod, mod-add-mod, add-mod-mod, add-mod_right}
use native.Mathlib.Decide.{dec_lt}
use native.Mathlib.Omega.{arith}
use Rattle.bits.specs.Bit.{bit, number}
use Rattle.bits.proofs.Bits.{bit-lt, bit-number, number_bit, number-cong, number-mod, number-field, number-add}

-- a place less than twice round
pub once : (n at : ℕ) → n ≤ at → at < 2 * n → at % n ≡ at - n
once n at low high = mod-eq-sub-mod low ∙ mod-eq_of_lt (omega arith)

-- the place i, counted from the place j on
pub turn : (n i j : ℕ) → i < n → (j + (i + n - j % n) % n) % n ≡ i
turn n i j h =
    let low : j % n < n = mod-lt j (omega arith) in
    let sum : j % n + (i + n - j % n) ≡ i + n = omega arith in
    add-mod-mod j (i + n - j % n) n ∙ sym (mod-add-mod j n (i + n - j % n)) ∙ ap (λ (x : ℕ). x % n) sum ∙ add-mod_right i n ∙ mod-eq_of_lt h

-- and no other leads to it
pub turn-back : (n j k : ℕ) → k < n → ((j + k) % n + n - j % n) % n ≡ k
turn-back n j k h = rw (sym (mod-add-mod j n k)) (at (dec_lt (j % n + k) n))
  where
    low : j % n < n
    low = mod-lt j (omega arith)

    at : Dec (j % n + k < n) → ((j % n + k) % n + n - j % n) % n ≡ k
    at (yes l) =
        let e : j % n + k + n - j % n ≡ k + n = omega arith in
        rw (mod-eq_of_lt l, e, add-mod_right k n) (mod-eq_of_lt h)
    at (no l) =
        let e : j % n + k - n + n - j % n ≡ k = omega arith in
        rw (once n (j % n + k) (omega arith) (omega (arith, low)), e) (mod-eq_of_lt h)

-- the lowest n bits of a word, turned s places upwards
pub number-turned : (n s w : ℕ) → s ≤ n → w % 2 ^ (n - s) * 2 ^ s + w / 2 ^ (n - s) % 2 ^ s ≡ number n (λ i. bit ((i + n - s) % n) w)
number-turned n s w h =
    let sum : s + (n - s) ≡ n = omega arith in
    sym ((rw sum at (number-add s (n - s) (λ i. bit ((i + n - s) % n) w)))
    ∙ ap₂ (λ (x y : ℕ). x * 2 ^ s + y) (number-cong (n - s) _ _ upper ∙ number-mod (n - s) w) (number-cong s _ _ lower ∙ number-field s (n - s) w))
  where
    small : (i : ℕ) → i < n - s → i < n
    small i l = omega arith

    within : (i : ℕ) → i < s → n - s + i < n
    within i l = omega arith

    upper : (i : ℕ) → i < n - s → bit ((s + i + n - s) % n) w ≡ bit i w
    upper i l =
        let e : s + i + n - s ≡ i + n = omega arith in
        rw (e, add-mod_right i n, mod-eq_of_lt (small i l))

    lower : (i : ℕ) → i < s → bit ((i + n - s) % n) w ≡ bit (n - s + i) w
    lower i l =
        let e : i + n - s ≡ n - s + i = omega arith in
        rw (e, mod-eq_of_lt (within i l))

-- a word of n bits written twice, side by side, and cut from the place s on: turned s places downwards
pub number-twice : (n s w : ℕ) → s ≤ n → w < 2 ^ n → (w + w * 2 ^ n) / 2 ^ s % 2 ^ n ≡ number n (λ k. bit ((s + k) % n) w)
number-twice n s w h l = sym (number-field n s (w + w * 2 ^ n)) ∙ number-cong n _ _ (λ k m. rw twice (bit-number (n + n) round (λ i. bit-lt (i % n) w) (s + k) (omega arith)))
  where
    round : ℕ → ℕ
    round k = bit (k % n) w

    lower : number n round ≡ w
    lower = number-cong n round (λ k. bit k w) (λ k m. ap (λ (i : ℕ). bit i w) (mod-eq_of_lt m)) ∙ number_bit n w l

    upper : number n (λ k. round (n + k)) ≡ w
    upper = number-cong n (λ k. round (n + k)) (λ k. bit k w) at ∙ number_bit n w l
      where
        at : (k : ℕ) → k < n → round (n + k) ≡ bit k w
        at k m =
            let e : n + k ≡ k + n = omega arith in
            rw (e, add-mod_right k n, mod-eq_of_lt m)

    twice : w + w * 2 ^ n ≡ number (n + n) round
    twice =
        let e : w + w * 2 ^ n ≡ w * 2 ^ n + w = omega arith in
        e ∙ sym (number-add n n round ∙ ap₂ (λ (x y : ℕ). x * 2 ^ n + y) upper lower)
