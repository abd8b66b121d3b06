-- Laws of entries by a rule: what they are written as, how long that is, and that each is good.
-- Assumes nothing.
use mathlib.Core.Path.{◌≡◌, refl, sym, ap, ◌∙◌}
use mathlib.Core.Bool.{Bool, true}
use mathlib.Core.List.{List, [], ◌∷◌, ◌++◌, append_assoc, append-nil}
use mathlib.Core.Logic.{⊎_elim}
use Prim.Native.Nat.{ℕ, zero, suc, ◌+◌, ◌<◌, ◌≤◌}
use native.Mathlib.Nat.{not-suc-le-zero, eq-or-lt_of_le, le_of_suc-le-suc}
use native.Mathlib.Numerals.{add-one}
use native.Mathlib.Omega.{arith}
use lib.ListN.{length, length-append}
use Rattle.bits.specs.Tab.{tab}
use Rattle.day.specs.Script.{good_each, put_each}
use Rattle.day.proofs.ScriptLaws.{both_true, true-both}

module _ {A : Type 0} where
  module _ (put : A → List ℕ) where
    put_each-append : (xs ys : List A) → put_each put (xs ++ ys) ≡ put_each put xs ++ put_each put ys
    unfolding put_each
    put_each-append [] ys = refl
    put_each-append (x ∷ xs) ys = rw (put_each-append xs ys) (sym (append_assoc (put x) (put_each put xs) (put_each put ys)))

    pub put_each-none : (f : ℕ → A) → [] ≡ put_each put (tab 0 f)
    unfolding put_each tab
    put_each-none f = refl

    -- one entry more
    pub put_each-more : (i : ℕ) (f : ℕ → A) → put_each put (tab i f) ++ put (f i) ≡ put_each put (tab (i + 1) f)
    unfolding put_each tab
    put_each-more i f = rw (add-one, put_each-append (tab i f) (f i ∷ []), append-nil (put (f i)))

    pub put_each-more-length : (i : ℕ) (f : ℕ → A) → length (put_each put (tab (i + 1) f)) ≡ length (put_each put (tab i f)) + length (put (f i))
    put_each-more-length i f = ap length (sym (put_each-more i f)) ∙ length-append (put_each put (tab i f)) (put (f i))

    -- where all have room, the next one has
    pub put_each-room : (n i : ℕ) (f : ℕ → A) → i < n → length (put_each put (tab i f)) + length (put (f i)) ≤ length (put_each put (tab n f))
    put_each-room zero i f h = absurd (not-suc-le-zero h)
    put_each-room (suc n) i f h =
        let more = rw add-one at (put_each-more-length n f) in
        ⊎_elim (λ e. rw e (omega (arith, more))) (λ l. omega (arith, more, put_each-room n i f l)) (eq-or-lt_of_le (le_of_suc-le-suc h))

  module _ (good : List A → A → Bool) where
    good_each-append : (before xs ys : List A) → good_each good before (xs ++ ys) ≡ true → (good_each good before xs ≡ true) × (good_each good (before ++ xs) ys ≡ true)
    unfolding good_each
    good_each-append before [] ys g = (refl, rw append-nil g)
    good_each-append before (x ∷ xs) ys g =
        let (here, later) = both_true (good before x) (good_each good (before ++ (x ∷ [])) (xs ++ ys)) g in
        let (a, b) = good_each-append (before ++ (x ∷ [])) xs ys later in
        (true-both {p = good before x} here a, rw (append_assoc before (x ∷ []) xs) at b)

    -- each of good entries is good
    pub good_each-at : (n i : ℕ) (f : ℕ → A) → i < n → good_each good [] (tab n f) ≡ true → good (tab i f) (f i) ≡ true
    unfolding good_each tab
    good_each-at zero i f h g = absurd (not-suc-le-zero h)
    good_each-at (suc n) i f h g =
        let (earlier, last) = good_each-append [] (tab n f) (f n ∷ []) g in
        ⊎_elim (λ e. rw e (both_true (good (tab n f) (f n)) true last).0) (λ l. good_each-at n i f l earlier) (eq-or-lt_of_le (le_of_suc-le-suc h))

  -- entries that pass one test pass another that asks no more
  pub good_each-by : (good other : List A → A → Bool) → ((before : List A) (a : A) → good before a ≡ true → other before a ≡ true)
      → (before l : List A) → good_each good before l ≡ true → good_each other before l ≡ true
  unfolding good_each
  good_each-by good other h before [] g = refl
  good_each-by good other h before (a ∷ l) g =
      let (here, later) = both_true (good before a) (good_each good (before ++ (a ∷ [])) l) g in
      true-both {p = other before a} (h before a here) (good_each-by good other h (before ++ (a ∷ [])) l later)
