-- A number near a mark: its value is the mark's, and its drift is the distance.
-- Assumes nothing.
use mathlib.Core.Logic.{◌⊎◌, inl, inr}
use mathlib.Core.Path.{◌≡◌, refl, sym, ap, ◌∙◌}
use mathlib.Core.Bool.{true, cond}
use Prim.Native.Nat.{ℕ, zero, suc, ◌+◌, ◌-◌, ◌*◌, ◌/◌, ◌%◌, ◌^◌, ◌≤◌, ◌<◌}
use native.Mathlib.Decide.{dec_lt}
use native.Mathlib.Nat.{mod-eq_of_lt, mod_self, mod-lt, add-mod_right, zero-lt-suc}
use native.Mathlib.Omega.{arith}
use lib.Dec.{ltb, leb→le}
use lib.IntN.{ℤ, pos, negsuc, ◌-ℤ◌}
use lib.Pow.{pow-add, pow_pos}
use lib.Signed.{le_z_yes}
use borrow.Author.Tests.{lt-ltb, le-ltb}
use Rattle.block.specs.Gray.{number_of_value, value_of_number}
use Rattle.block.specs.Block.{symbol_of_codewords, word_of_codewords}
use Rattle.block.proofs.GrayLaws.{value-lt, value-of-number-of-value}
use Rattle.drift.specs.Drift.{steps_up, distance, moved, mark_of, drift_of, Small}
use Rattle.drift.proofs.Differences.{minus-up, minus-same}

-- the number a is k - 2 from the mark of the value v, round a circle of 4 x 2^n numbers
record Near (n v k a : ℕ) : Type 0 where
  pub few : k < 4
  pub value : v < 2 ^ n
  pub below : a < 4 * 2 ^ n
  pub place : (a + 2 ≡ 4 * v + k) ⊎ (a + 2 ≡ 4 * v + k + 4 * 2 ^ n)

-- it has the value v
near-value : {n v k a : ℕ} → Near n v k a → value_of_number n true a ≡ v
unfolding value_of_number
near-value {n} {v} {k} {a} h = by h.place
  where
    by : (a + 2 ≡ 4 * v + k) ⊎ (a + 2 ≡ 4 * v + k + 4 * 2 ^ n) → (a + 2) / 4 % 2 ^ n ≡ v
    by (inl e) =
        let q : (a + 2) / 4 ≡ v = omega (arith, h.few) in
        rw q (mod-eq_of_lt h.value)
    by (inr e) =
        let q : (a + 2) / 4 ≡ 2 ^ n = omega (arith, h.few, h.below) in
        let z : v ≡ 0 = omega (arith, h.below) in
        rw (q, z) (mod_self (2 ^ n))

-- there is one such number
near_same : {n v k a b : ℕ} → Near n v k a → Near n v k b → a ≡ b
near_same {n} {v} {k} {a} {b} g h = by g.place h.place
  where
    by : (a + 2 ≡ 4 * v + k) ⊎ (a + 2 ≡ 4 * v + k + 4 * 2 ^ n) → (b + 2 ≡ 4 * v + k) ⊎ (b + 2 ≡ 4 * v + k + 4 * 2 ^ n) → a ≡ b
    by (inl e) (inl f) = omega arith
    by (inl e) (inr f) = absurd (omega (arith, h.below))
    by (inr e) (inl f) = absurd (omega (arith, g.below))
    by (inr e) (inr f) = omega arith

-- the steps up to it from the mark
near-steps : {n v k a : ℕ} → Near n v k a → steps_up (4 * 2 ^ n) (4 * v) a ≡ (k + 4 * 2 ^ n - 2) % (4 * 2 ^ n)
unfolding steps_up
near-steps {n} {v} {k} {a} h = by h.place
  where
    by : (a + 2 ≡ 4 * v + k) ⊎ (a + 2 ≡ 4 * v + k + 4 * 2 ^ n) → (a + 4 * 2 ^ n - 4 * v) % (4 * 2 ^ n) ≡ (k + 4 * 2 ^ n - 2) % (4 * 2 ^ n)
    by (inl e) =
        let same : a + 4 * 2 ^ n - 4 * v ≡ k + 4 * 2 ^ n - 2 = omega (arith, h.value) in
        ap (λ (x : ℕ). x % (4 * 2 ^ n)) same
    by (inr e) =
        let more : a + 4 * 2 ^ n - 4 * v ≡ k + 4 * 2 ^ n - 2 + 4 * 2 ^ n = omega (arith, h.value) in
        ap (λ (x : ℕ). x % (4 * 2 ^ n)) more ∙ add-mod_right (k + 4 * 2 ^ n - 2) (4 * 2 ^ n)

-- so many steps up are k - 2 by the shorter way
distance_is : (c m a k : ℕ) → 4 ≤ c → k < 4 → steps_up c m a ≡ (k + c - 2) % c → distance c m a ≡ pos k -ℤ pos 2
unfolding distance
distance_is c m a k h l e = by (dec_lt k 2)
  where
    by : Dec (k < 2) → cond (ltb (2 * steps_up c m a) c) (pos (steps_up c m a)) (pos (steps_up c m a) -ℤ pos c) ≡ pos k -ℤ pos 2
    by (yes b) =
        let s : steps_up c m a ≡ k + c - 2 = e ∙ mod-eq_of_lt (omega arith) in
        rw (s, le-ltb (2 * (k + c - 2)) c (omega arith)) (minus-same (k + c - 2) c k 2 (omega arith))
    by (no b) =
        let up : k + c - 2 ≡ k - 2 + c = omega arith in
        let s : steps_up c m a ≡ k - 2 = e ∙ ap (λ (x : ℕ). x % c) up ∙ add-mod_right (k - 2) c ∙ mod-eq_of_lt (omega arith) in
        rw (s, lt-ltb (2 * (k - 2)) c (omega arith)) (sym (minus-up k 2 (omega arith)))

near-distance : {n v k a : ℕ} → Near n v k a → distance (4 * 2 ^ n) (4 * v) a ≡ pos k -ℤ pos 2
near-distance {n} {v} {k} {a} h = distance_is (4 * 2 ^ n) (4 * v) a k (omega (arith, h.value)) h.few (near-steps h)

-- each number is near the mark of its own value
near-own : (n a : ℕ) → a < 4 * 2 ^ n → Near n (value_of_number n true a) ((a + 2) % 4) a
unfolding value_of_number
near-own n a l = by ((a + 2) / 4) refl (dec_lt ((a + 2) / 4) (2 ^ n))
  where
    by : (q : ℕ) → (a + 2) / 4 ≡ q → Dec (q < 2 ^ n) → Near n (q % 2 ^ n) ((a + 2) % 4) a
    by q e (yes b) =
        rw (mod-eq_of_lt b) (record { few = mod-lt (a + 2) (zero-lt-suc 3); value = b; below = l; place = inl (omega arith) })
    by q e (no b) =
        let end : q ≡ 2 ^ n = omega arith in
        let z : q % 2 ^ n ≡ 0 = ap (λ (x : ℕ). x % 2 ^ n) end ∙ mod_self (2 ^ n) in
        rw z (record { few = mod-lt (a + 2) (zero-lt-suc 3); value = pow_pos n; below = l; place = inr (omega arith) })

-- one and two steps from a mark
module _ (n v : ℕ) (value : v < 2 ^ n) where
  up : (j : ℕ) → j < 2 → Near n v (j + 2) (moved (4 * 2 ^ n) (4 * v) (pos j))
  unfolding moved
  up j l =
      let e : (4 * v + j) % (4 * 2 ^ n) ≡ 4 * v + j = mod-eq_of_lt (omega arith) in
      rw e (record { few = omega arith; value = value; below = omega arith; place = inl (omega arith) })

  down : (j : ℕ) → j < 2 → Near n v (1 - j) (moved (4 * 2 ^ n) (4 * v) (negsuc j))
  unfolding moved
  down j l = rw small (by (dec_lt (4 * v) (suc j)))
    where
      small : suc j % (4 * 2 ^ n) ≡ suc j
      small = mod-eq_of_lt (omega arith)

      by : Dec (4 * v < suc j) → Near n v (1 - j) ((4 * v + 4 * 2 ^ n - suc j) % (4 * 2 ^ n))
      by (yes b) =
          let e : (4 * v + 4 * 2 ^ n - suc j) % (4 * 2 ^ n) ≡ 4 * v + 4 * 2 ^ n - suc j = mod-eq_of_lt (omega arith) in
          rw e (record { few = omega arith; value = value; below = omega arith; place = inr (omega arith) })
      by (no b) =
          let s : 4 * v + 4 * 2 ^ n - suc j ≡ 4 * v - suc j + 4 * 2 ^ n = omega arith in
          let e : (4 * v + 4 * 2 ^ n - suc j) % (4 * 2 ^ n) ≡ 4 * v - suc j
          = ap (λ (x : ℕ). x % (4 * 2 ^ n)) s ∙ add-mod_right (4 * v - suc j) (4 * 2 ^ n) ∙ mod-eq_of_lt (omega arith) in
          rw e (record { few = omega arith; value = value; below = omega arith; place = inl (omega arith) })

-- the four small numbers, and no other
by-small : (P : ℤ → Type 0) → P (negsuc 1) → P (negsuc 0) → P (pos 0) → P (pos 1) → (d : ℤ) → Small d → P d
by-small P a b c e (pos zero) s = c
by-small P a b c e (pos (suc zero)) s = e
by-small P a b c e (pos (suc (suc k))) s = absurd (omega (arith, leb→le (suc (suc k)) 1 s.1.le))
by-small P a b c e (negsuc zero) s = b
by-small P a b c e (negsuc (suc zero)) s = a
by-small P a b c e (negsuc (suc (suc k))) s = absurd (omega (arith, leb→le (suc (suc k)) 1 s.0.le))

-- a number that is d from a mark is near it, where d is small
near-moved : (n v : ℕ) (d : ℤ) → v < 2 ^ n → Small d → (k : ℕ) × Near n v k (moved (4 * 2 ^ n) (4 * v) d) × (pos k -ℤ pos 2 ≡ d)
near-moved n v d value =
    by-small (λ x. (k : ℕ) × Near n v k (moved (4 * 2 ^ n) (4 * v) x) × (pos k -ℤ pos 2 ≡ x))
    (0, down n v value 1 (omega arith), refl)
    (1, down n v value 0 (omega arith), refl)
    (2, up n v value 0 (omega arith), refl)
    (3, up n v value 1 (omega arith), refl) d

-- a number near a mark is small from it, and is the number so far from it
near-small : (n v k a : ℕ) → Near n v k a → Small (pos k -ℤ pos 2) × (moved (4 * 2 ^ n) (4 * v) (pos k -ℤ pos 2) ≡ a)
near-small n v zero a h = ((le_z_yes tt, le_z_yes tt), near_same (down n v h.value 1 (omega arith)) h)
near-small n v (suc zero) a h = ((le_z_yes tt, le_z_yes tt), near_same (down n v h.value 0 (omega arith)) h)
near-small n v (suc (suc zero)) a h = ((le_z_yes tt, le_z_yes tt), near_same (up n v h.value 0 (omega arith)) h)
near-small n v (suc (suc (suc zero))) a h = ((le_z_yes tt, le_z_yes tt), near_same (up n v h.value 1 (omega arith)) h)
near-small n v (suc (suc (suc (suc k)))) a h = absurd (omega (arith, h.few))

-- the circle of the 2^SF numbers
module _ (sf : ℕ) (two : 2 ≤ sf) where
  four : 2 ^ sf ≡ 4 * 2 ^ (sf - 2)
  four =
      let same : sf ≡ sf - 2 + 2 = omega arith in
      ap (λ (k : ℕ). 2 ^ k) same ∙ pow-add 2 (sf - 2) 2 ∙ omega arith

  -- a number that is d from the mark of v, where d is small
  module _ (v : ℕ) (d : ℤ) (value : v < 2 ^ (sf - 2)) (small : Small d) where
    at : (k : ℕ) × Near (sf - 2) v k (moved (2 ^ sf) (4 * v) d) × (pos k -ℤ pos 2 ≡ d)
    at = rw four (near-moved (sf - 2) v d value small)

    -- it has the value v
    value-of-moved : value_of_number (sf - 2) true (moved (2 ^ sf) (4 * v) d) ≡ v
    value-of-moved = near-value at.1

    -- and the drift d
    drift-of-moved : drift_of sf (moved (2 ^ sf) (4 * v) d) ≡ d
    unfolding drift_of mark_of number_of_value
    drift-of-moved =
        let a : ℕ = moved (2 ^ sf) (4 * v) d in
        ap (λ (x : ℕ). distance (2 ^ sf) (4 * x) a) value-of-moved ∙ ap (λ (x : ℕ). distance x (4 * v) a) four ∙ near-distance at.1 ∙ at.2

  -- a symbol that arrives d from where it was sent, where d is small, has the value that was sent, and its drift is d
  module _ (c : ℕ → ℕ) (j : ℕ) (d : ℤ) (small : Small d) where
    pub value-of-symbol : value_of_number (sf - 2) true (moved (2 ^ sf) (symbol_of_codewords (sf - 2) true c j) d)
        ≡ value_of_number (sf - 2) true (symbol_of_codewords (sf - 2) true c j)
    unfolding symbol_of_codewords number_of_value
    value-of-symbol =
        let lt = value-lt (sf - 2) (word_of_codewords (sf - 2) c j) in
        value-of-moved _ d lt small ∙ sym (value-of-number-of-value (sf - 2) true _ lt)

    pub drift-of-symbol : drift_of sf (moved (2 ^ sf) (symbol_of_codewords (sf - 2) true c j) d) ≡ d
    unfolding symbol_of_codewords number_of_value
    drift-of-symbol = drift-of-moved _ d (value-lt (sf - 2) (word_of_codewords (sf - 2) c j)) small

  module _ (s : ℕ) (below : s < 2 ^ sf) where
    abbrev k : ℕ
    k = (s + 2) % 4

    own : Near (sf - 2) (value_of_number (sf - 2) true s) k s
    own = near-own (sf - 2) s (rw four at below)

    -- the drift is two less than the remainder of the number plus 2 by 4
    drift-is : drift_of sf s ≡ pos k -ℤ pos 2
    unfolding drift_of mark_of number_of_value
    drift-is = ap (λ (x : ℕ). distance x (4 * value_of_number (sf - 2) true s) s) four ∙ near-distance own

    -- it is small, and leads from the mark to the number
    pub drift-small : Small (drift_of sf s)
    drift-small = rw drift-is (near-small _ _ k s own).0

    pub drift-moves : moved (2 ^ sf) (mark_of sf s) (drift_of sf s) ≡ s
    unfolding mark_of number_of_value
    drift-moves = ap (moved (2 ^ sf) (4 * value_of_number (sf - 2) true s)) drift-is ∙ rw four (near-small _ _ k s own).1

    -- no other small number does
    pub drift-only : (d : ℤ) → Small d → moved (2 ^ sf) (mark_of sf s) d ≡ s → d ≡ drift_of sf s
    unfolding mark_of number_of_value
    drift-only d small e = sym (drift-of-moved (value_of_number (sf - 2) true s) d own.value small) ∙ ap (drift_of sf) e

    -- the mark is a number below 2^SF
    pub mark-below : mark_of sf s < 2 ^ sf
    unfolding mark_of number_of_value
    mark-below = rw four (omega (arith, own.value))

    -- the number stands beside its mark, or at the end of the range with the mark 0
    pub beside : s ≤ mark_of sf s + 1 → (mark_of sf s ≤ s + 2) × (pos s -ℤ pos (mark_of sf s) ≡ drift_of sf s)
    unfolding mark_of number_of_value
    beside l = by own.place
      where
        v : ℕ
        v = value_of_number (sf - 2) true s

        by : (s + 2 ≡ 4 * v + k) ⊎ (s + 2 ≡ 4 * v + k + 4 * 2 ^ (sf - 2)) → (4 * v ≤ s + 2) × (pos s -ℤ pos (4 * v) ≡ drift_of sf s)
        by (inl e) = (omega arith, minus-same s (4 * v) k 2 (omega arith) ∙ sym drift-is)
        by (inr e) = absurd (omega (arith, own.value, own.below))

    pub past : mark_of sf s + 1 < s → (s ≤ mark_of sf s + 2 ^ sf) × (mark_of sf s + 2 ^ sf ≤ s + 2) × (pos s -ℤ pos (mark_of sf s + 2 ^ sf) ≡ drift_of sf s)
    unfolding mark_of number_of_value
    past l = rw four (by own.place)
      where
        v : ℕ
        v = value_of_number (sf - 2) true s

        c : ℕ
        c = 4 * 2 ^ (sf - 2)

        by : (s + 2 ≡ 4 * v + k) ⊎ (s + 2 ≡ 4 * v + k + c) → (s ≤ 4 * v + c) × (4 * v + c ≤ s + 2) × (pos s -ℤ pos (4 * v + c) ≡ drift_of sf s)
        by (inl e) = absurd (omega (arith, own.few))
        by (inr e) = (omega (arith, own.below), omega arith, minus-same s (4 * v + c) k 2 (omega arith) ∙ sym drift-is)

-- a number on the circle is one of its numbers
pub moved-below : (c m : ℕ) (d : ℤ) → 0 < c → moved c m d < c
unfolding moved
moved-below c m (pos k) h = mod-lt (m + k) h
moved-below c m (negsuc k) h = mod-lt (m + c - suc k % c) h

-- no step leads to another number
pub moved_none : (c m : ℕ) → m < c → moved c m (pos 0) ≡ m
unfolding moved
moved_none c m l =
    let z : m + 0 ≡ m = omega arith in
    rw z (mod-eq_of_lt l)
