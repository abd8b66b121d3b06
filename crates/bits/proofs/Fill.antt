-- What a loop that fills a list by a rule keeps.
-- Assumes nothing.
use mathlib.Core.Path.{◌≡◌, refl, ap, ◌∙◌}
use mathlib.Core.List.{List}
use Prim.Native.Nat.{ℕ, ◌+◌, ◌<◌, ◌≤◌}
use native.Mathlib.Omega.{arith}
use lib.ListN.{length, get_or, set, length-set}
use Rattle.bits.specs.Tab.{tab, over, over_at}
use Rattle.bits.proofs.Tabs.{over_none, over-more, get_or-over-rest, over_at-none, over_at-more, over_at-on, over-all, length_over, length-over_at, over-on}

-- l is d with its first n cells by the rule f
pub record Filled {A : Type 0} (f : ℕ → A) (d : List A) (n : ℕ) (l : List A) : Type 0 where
  pub is : l ≡ over n f d
  pub long : length l ≡ length d
  pub within : n ≤ length d

-- l is d with n cells from the place at on by the rule f
pub record FilledAt {A : Type 0} (f : ℕ → A) (d : List A) (at n : ℕ) (l : List A) : Type 0 where
  pub is : l ≡ over_at at n f d
  pub long : length l ≡ length d
  pub within : at + n ≤ length d

module _ {A : Type 0} where
  pub filled_none : (f : ℕ → A) (d : List A) → Filled f d 0 d
  filled_none f d = record { is = over_none f d; long = refl; within = omega arith }

  pub filled_more : {f : ℕ → A} {d : List A} {n : ℕ} {l : List A} {x : A} → Filled f d n l → n < length d → x ≡ f n → Filled f d (n + 1) (set l n x)
  filled_more {f} {d} {n} {l} {x} p h q =
      record { is = rw (p.is, q) (over-more n f d h); long = length-set l n x ∙ p.long; within = omega arith }

  -- what is not yet filled is as it was
  pub filled-rest : {f : ℕ → A} {d : List A} {n : ℕ} {l : List A} (z : A) → Filled f d n l → get_or l n z ≡ get_or d n z
  filled-rest {f} {d} {n} {l} z p = rw p.is (get_or-over-rest n f d n z (omega arith))

  pub filled-end : {f : ℕ → A} {d : List A} {m n : ℕ} {l : List A} → Filled f d m l → m ≡ n → l ≡ over n f d
  filled-end {f} {d} p e = rw e at p.is

  -- a list that is filled whole
  pub filled-whole : {f : ℕ → A} {d l : List A} {m : ℕ} (n : ℕ) → Filled f d m l → m ≡ n → length d ≡ n → l ≡ tab n f
  filled-whole {f} {d} n p e k = filled-end p e ∙ over-all n f d (omega arith)

  -- a piece of m cells more
  pub filled_on : {f g : ℕ → A} {d : List A} {n m : ℕ} {l k : List A} → Filled f d n l → n + m ≤ length d → k ≡ over_at n m g l
      → ((i : ℕ) → i < m → g i ≡ f (n + i)) → Filled f d (n + m) k
  filled_on {f} {g} {d} {n} {m} {l} {k} p h q e =
      let is : k ≡ over (n + m) f d = q ∙ ap (λ (x : List A). over_at n m g x) p.is ∙ over-on n m f g d h e in
      record { is = is; long = ap length is ∙ length_over (n + m) f d h; within = h }

  pub filled_at-none : (f : ℕ → A) (d : List A) (at : ℕ) → at ≤ length d → FilledAt f d at 0 d
  filled_at-none f d at h = record { is = over_at-none at f d; long = refl; within = omega arith }

  pub filled_at-more : {f : ℕ → A} {d : List A} {at n : ℕ} {l : List A} {x : A} → FilledAt f d at n l → at + n < length d → x ≡ f n
      → FilledAt f d at (n + 1) (set l (at + n) x)
  filled_at-more {f} {d} {at} {n} {l} {x} p h q =
      record { is = rw (p.is, q) (over_at-more at n f d h); long = length-set l (at + n) x ∙ p.long; within = omega arith }

  -- a piece of m cells more
  pub filled_at-on : {f g : ℕ → A} {d : List A} {at n m : ℕ} {l k : List A} → FilledAt f d at n l → at + n + m ≤ length d → k ≡ over_at (at + n) m g l
      → ((i : ℕ) → i < m → g i ≡ f (n + i)) → FilledAt f d at (n + m) k
  filled_at-on {f} {g} {d} {at} {n} {m} {l} {k} p h q e =
      let is : k ≡ over_at at (n + m) f d = q ∙ ap (λ (x : List A). over_at (at + n) m g x) p.is ∙ over_at-on at n m f g d h e in
      record { is = is; long = ap length is ∙ length-over_at at (n + m) f d (omega arith); within = omega arith }

  pub filled_at-end : {f : ℕ → A} {d : List A} {at m n : ℕ} {l : List A} → FilledAt f d at m l → m ≡ n → l ≡ over_at at n f d
  filled_at-end {f} {d} p e = rw e at p.is
