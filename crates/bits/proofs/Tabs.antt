-- Laws of lists by a rule.
-- Assumes nothing.
use mathlib.Core.Path.{◌≡◌, refl, sym, ap, subst, ◌∙◌}
use mathlib.Core.Bool.{Bool, true, false}
use mathlib.Core.List.{List, [], ◌∷◌, ◌++◌, append_assoc, append-nil}
use mathlib.Core.Logic.{⊎_elim}
use Prim.Native.Nat.{ℕ, zero, suc, ◌+◌, ◌-◌, ◌<◌, ◌≤◌}
use native.Mathlib.Nat.{add-zero, add-suc, not-suc-le-zero, eq-or-lt_of_le, le_of_suc-le-suc}
use native.Mathlib.Numerals.{add-one}
use native.Mathlib.Decide.{dec_lt}
use native.Mathlib.Omega.{arith}
use borrow.Author.Tests.{ltb-true, ltb-false}
use lib.Dec.{ltb}
use lib.ListN.{length, get_or, take, drop, set, length-append, length-drop, drop_of_length-le, take-append-drop, length-replicate, get_or-replicate, get_or-append}
use lib.Seq.{get_or-append-add, get_or-take, get_or-drop, drop-cons, set_at, get_or_at, length-take-le, ext_get_or, take_at, drop-drop, drop_at}
use Rattle.bits.specs.Tab.{tab, over, over_at, blank}

module _ {A : Type 0} where
  pub length-blank : (n : ℕ) (a : A) → length (blank n a) ≡ n
  unfolding blank
  length-blank n a = length-replicate n a

  pub get_or-blank : (n i : ℕ) (a d : A) → i < n → get_or (blank n a) i d ≡ a
  unfolding blank
  get_or-blank n i a d h = get_or-replicate n i a d h

  pub length-tab : (n : ℕ) (f : ℕ → A) → length (tab n f) ≡ n
  unfolding tab
  length-tab zero f = refl
  length-tab (suc n) f = simp (length-append, length-tab n f, add-one)

  pub over_none : (f : ℕ → A) (d : List A) → d ≡ over 0 f d
  unfolding tab
  over_none f d = refl

  pub over-more : (n : ℕ) (f : ℕ → A) (d : List A) → n < length d → set (over n f d) n (f n) ≡ over (n + 1) f d
  unfolding tab
  over-more n f d h =
      rw (add-one, drop-cons d n (f n))
      (set_at (tab n f) _ (drop (suc n) d) (f n) n (length-tab n f) ∙ sym (append_assoc (tab n f) (f n ∷ []) (drop (suc n) d)))

  pub length_over : (n : ℕ) (f : ℕ → A) (d : List A) → n ≤ length d → length (over n f d) ≡ length d
  length_over n f d h = simp (length-append, length-tab, length-drop) (omega arith)

  pub over-all : (n : ℕ) (f : ℕ → A) (d : List A) → length d ≤ n → over n f d ≡ tab n f
  over-all n f d h = rw (drop_of_length-le d h) (append-nil (tab n f))

  pub get_or-tab : (n : ℕ) (f : ℕ → A) (i : ℕ) (z : A) → i < n → get_or (tab n f) i z ≡ f i
  unfolding tab
  get_or-tab zero f i z h = absurd (not-suc-le-zero h)
  get_or-tab (suc n) f i z h =
      ⊎_elim (λ e. rw e (get_or_at (tab n f) (f n) [] z n (length-tab n f)))
      (λ l. get_or-append (tab n f) (f n ∷ []) z i (rw length-tab l) ∙ get_or-tab n f i z l)
      (eq-or-lt_of_le (le_of_suc-le-suc h))

  pub get_or-over : (n : ℕ) (f : ℕ → A) (d : List A) (i : ℕ) (z : A) → i < n → get_or (over n f d) i z ≡ f i
  get_or-over n f d i z h = get_or-append (tab n f) (drop n d) z i (rw length-tab h) ∙ get_or-tab n f i z h

  pub get_or-over-rest : (n : ℕ) (f : ℕ → A) (d : List A) (i : ℕ) (z : A) → n ≤ i → get_or (over n f d) i z ≡ get_or d i z
  get_or-over-rest n f d i z h =
      let e : length (tab n f) + (i - n) ≡ i = rw length-tab (omega arith) in
      let k : n + (i - n) ≡ i = omega arith in
      (rw e at (get_or-append-add (tab n f) (drop n d) (i - n) z)) ∙ get_or-drop n d (i - n) z ∙ ap (λ (m : ℕ). get_or d m z) k

  -- two rules that agree make the same list
  pub tab-cong : (n : ℕ) (f g : ℕ → A) → ((i : ℕ) → i < n → f i ≡ g i) → tab n f ≡ tab n g
  unfolding tab
  tab-cong zero f g h = refl
  tab-cong (suc n) f g h = rw (tab-cong n f g (λ i l. h i (omega arith)), h n (omega arith))

  pub over-cong : (n : ℕ) (f g : ℕ → A) (d : List A) → ((i : ℕ) → i < n → f i ≡ g i) → over n f d ≡ over n g d
  over-cong n f g d h = ap (λ (l : List A). l ++ drop n d) (tab-cong n f g h)

  -- a list is its own rule
  pub tab-get_or : (l : List A) (z : A) → tab (length l) (λ i. get_or l i z) ≡ l
  tab-get_or l z = ext_get_or z _ _ (length-tab _ _) (λ i h. get_or-tab _ _ i z (rw length-tab at h))

  -- n and then m by the rule
  pub tab-add : (n m : ℕ) (f : ℕ → A) → tab (n + m) f ≡ tab n f ++ tab m (λ i. f (n + i))
  unfolding tab
  tab-add n zero f = rw add-zero (sym (append-nil (tab n f)))
  tab-add n (suc m) f = rw (add-suc, tab-add n m f) (append_assoc (tab n f) (tab m (λ i. f (n + i))) (f (n + m) ∷ []))

  pub over_at-none : (at : ℕ) (f : ℕ → A) (d : List A) → d ≡ over_at at 0 f d
  unfolding tab
  over_at-none at f d = rw add-zero (sym (take-append-drop at d))

  pub over_at-more : (at n : ℕ) (f : ℕ → A) (d : List A) → at + n < length d → set (over_at at n f d) (at + n) (f n) ≡ over_at at (n + 1) f d
  unfolding tab
  over_at-more at n f d h =
      let long : length (take at d ++ tab n f) ≡ at + n = simp (length-append, length-take-le at d (omega arith), length-tab) in
      let next : at + (n + 1) ≡ suc (at + n) = omega arith in
      rw (next, add-one, drop-cons d (at + n) (f n), ← append_assoc)
      (set_at (take at d ++ tab n f) _ (drop (suc (at + n)) d) (f n) (at + n) long ∙ simp append_assoc)

  pub length-over_at : (at n : ℕ) (f : ℕ → A) (d : List A) → at + n ≤ length d → length (over_at at n f d) ≡ length d
  length-over_at at n f d h = simp (length-append, length-take-le at d (omega arith), length-tab, length-drop) (omega arith)

  -- a list filled to n, filled on from there
  pub over_at-on : (at n m : ℕ) (f g : ℕ → A) (d : List A) → at + n + m ≤ length d → ((i : ℕ) → i < m → g i ≡ f (n + i))
      → over_at (at + n) m g (over_at at n f d) ≡ over_at at (n + m) f d
  over_at-on at n m f g d h e = ap (λ (x : List A). over_at (at + n) m g x) split ∙ rw (begin, rest, tab-cong m g _ e, tab-add n m f) (simp append_assoc)
    where
      front : List A
      front = take at d ++ tab n f

      split : over_at at n f d ≡ front ++ drop (at + n) d
      split = sym (append_assoc (take at d) (tab n f) (drop (at + n) d))

      long : length front ≡ at + n
      long = simp (length-append, length-take-le at d (omega arith), length-tab)

      begin : take (at + n) (front ++ drop (at + n) d) ≡ front
      begin = take_at front (drop (at + n) d) (at + n) long

      rest : drop (at + n + m) (front ++ drop (at + n) d) ≡ drop (at + (n + m)) d
      rest =
          let s : at + n + m ≡ at + (n + m) = omega arith in
          sym (drop-drop m (at + n) (front ++ drop (at + n) d)) ∙ ap (drop m) (drop_at front (drop (at + n) d) (at + n) long)
          ∙ drop-drop m (at + n) d ∙ ap (λ (x : ℕ). drop x d) s

  pub over-on : (n m : ℕ) (f g : ℕ → A) (d : List A) → n + m ≤ length d → ((i : ℕ) → i < m → g i ≡ f (n + i)) → over_at n m g (over n f d) ≡ over (n + m) f d
  over-on n m f g d h e =
      rw (take_at (tab n f) (drop n d) n (length-tab n f), ext-drop, tab-cong m g _ e, tab-add n m f)
      (sym (append_assoc (tab n f) (tab m (λ i. f (n + i))) (drop (n + m) d)))
    where
      ext-drop : drop (n + m) (over n f d) ≡ drop (n + m) d
      ext-drop =
          let one = f 0 in
          ext_get_or one _ _ (simp (length-drop, length-append, length-tab) (omega arith))
          (λ i l. get_or-drop (n + m) (over n f d) i one ∙ get_or-over-rest n f d (n + m + i) one (omega arith) ∙ sym (get_or-drop (n + m) d i one))

  -- m cells by one rule are n cells by another where the two agree and the rest is as it was
  pub over-blank : (n m : ℕ) (f g : ℕ → A) (a : A) → n ≤ m → ((j : ℕ) → j < n → f j ≡ g j) → ((j : ℕ) → n ≤ j → j < m → f j ≡ a)
      → over m f (blank m a) ≡ over n g (blank m a)
  over-blank n m f g a h e r =
      ext_get_or a _ _ (long m f (omega arith) ∙ sym (long n g h)) (λ j l. at j (rw (long m f (omega arith)) at l) (dec_lt j n))
    where
      long : (k : ℕ) (f : ℕ → A) → k ≤ m → length (over k f (blank m a)) ≡ m
      long k f l = length_over k f (blank m a) (omega (arith, length-blank m a)) ∙ length-blank m a

      at : (j : ℕ) → j < m → Dec (j < n) → get_or (over m f (blank m a)) j a ≡ get_or (over n g (blank m a)) j a
      at j l (yes q) = get_or-over m f _ j a l ∙ e j q ∙ sym (get_or-over n g _ j a q)
      at j l (no q) = get_or-over m f _ j a l ∙ r j (omega arith) l ∙ sym (get_or-over-rest n g _ j a (omega arith) ∙ get_or-blank m j a a l)

-- n cells from the place at on by a rule: by another that agrees with it there
pub over_at-cong : {A : Type 0} (at n : ℕ) (f g : ℕ → A) (d : List A) → ((i : ℕ) → i < n → f i ≡ g i) → over_at at n f d ≡ over_at at n g d
over_at-cong {A} at n f g d h = ap (λ (x : List A). take at d ++ (x ++ drop (at + n) d)) (tab-cong n f g h)

-- those cells, and the others
module _ {A : Type 0} (at n : ℕ) (f : ℕ → A) (d : List A) (z : A) (room : at ≤ length d) where
  behind : (i : ℕ) → get_or (over_at at n f d) (at + i) z ≡ get_or (tab n f ++ drop (at + n) d) i z
  behind i = rw (length-take-le at d room) at (get_or-append-add (take at d) (tab n f ++ drop (at + n) d) i z)

  pub get_or-over_at : (i : ℕ) → i < n → get_or (over_at at n f d) (at + i) z ≡ f i
  get_or-over_at i l = behind i ∙ get_or-append (tab n f) _ z i (rw length-tab l) ∙ get_or-tab n f i z l

  pub get_or-over_at-before : (i : ℕ) → i < at → get_or (over_at at n f d) i z ≡ get_or d i z
  get_or-over_at-before i l = get_or-append (take at d) _ z i (rw (length-take-le at d room) l) ∙ get_or-take at d i z l

  get_or-over_at-behind : (i : ℕ) → get_or (over_at at n f d) (at + (n + i)) z ≡ get_or d (at + n + i) z
  get_or-over_at-behind i = behind (n + i) ∙ (rw length-tab at (get_or-append-add (tab n f) (drop (at + n) d) i z)) ∙ get_or-drop (at + n) d i z

  -- what holds of the rule's cells and of the old ones holds of all
  pub over_at-all : (P : A → Type 0) → ((i : ℕ) → P (f i)) → ((i : ℕ) → P (get_or d i z)) → (i : ℕ) → P (get_or (over_at at n f d) i z)
  over_at-all P rule old i = split (ltb i at) (ltb i (at + n)) refl refl
    where
      split : (b c : Bool) → ltb i at ≡ b → ltb i (at + n) ≡ c → P (get_or (over_at at n f d) i z)
      split true c p q = subst P (sym (get_or-over_at-before i (ltb-true i at p))) (old i)
      split false true p q =
          let over : at ≤ i = ltb-false i at p in
          let under : i < at + n = ltb-true i (at + n) q in
          let e : at + (i - at) ≡ i = omega arith in
          subst P (sym (rw e at (get_or-over_at (i - at) (omega arith)))) (rule (i - at))
      split false false p q =
          let over : at + n ≤ i = ltb-false i (at + n) q in
          let e : at + (n + (i - (at + n))) ≡ i = omega arith in
          subst P (sym (rw e at (get_or-over_at-behind (i - (at + n))))) (old (at + n + (i - (at + n))))
