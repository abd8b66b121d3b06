-- What `array::from_fn` makes of a closure that follows a rule is the list by that rule.
-- Assumes nothing.
use mathlib.Core.Path.{◌≡◌, refl, sym, ap, ◌∙◌, subst}
use mathlib.Core.List.{List}
use Prim.Native.Nat.{ℕ, zero, suc, ◌+◌, ◌<◌, ◌≤◌}
use native.Mathlib.Decide.{ℕ_discrete}
use native.Mathlib.Omega.{arith}
use lib.ListN.{get_or}
use lib.Seq.{ext_get_or}
use Rattle.std.specs.Array.{IsFromFnResult, IsFromFnResultFrom}
use Rattle.std.specs.Fn.{Called, Mut}
use Rattle.bits.specs.Tab.{tab}
use Rattle.bits.proofs.Tabs.{length-tab, get_or-tab}

-- a call at each i below n leaves the closure as it was, and gives f i
pub record Follows {F B : Type 0} (g : Mut F (ℕ × Unit {0}) B) (c : F) (f : ℕ → B) (n : ℕ) : Type 0 where
  pub gives : (i : ℕ) (y : B) (d : F) → i < n → Called g c (i, tt) y d → (d ≡ c) × (y ≡ f i)

module _ {F B : Type 0} {g : Mut F (ℕ × Unit {0}) B} {c : F} {f : ℕ → B} {n : ℕ} (law : Follows g c f n) where
  cell : (m i : ℕ) (d : F) (l : List B) (z : B) → d ≡ c → i + m ≡ n → IsFromFnResultFrom g d l i m → (k : ℕ) → i ≤ k → k < n → get_or l k z ≡ f k
  cell zero i d l z e s r k a b = absurd (omega arith)
  cell (suc m) i d l z e s (d', y, is, called, rest) k a b =
      let (same, value) = law.gives i y d' (omega arith) (subst (λ (x : F). Called g x (i, tt) y d') e called) in
      by (ℕ_discrete k i) value (cell m (i + 1) d' l z same (omega arith) rest k)
    where
      by : Dec (k ≡ i) → y ≡ f i → (i + 1 ≤ k → k < n → get_or l k z ≡ f k) → get_or l k z ≡ f k
      by (yes q) value later = ap (λ (j : ℕ). get_or l j z) q ∙ is.1 z ∙ value ∙ sym (ap f q)
      by (no q) value later = later (omega arith) b

  pub made-tab : {l : List B} → IsFromFnResult g c l n → l ≡ tab n f
  made-tab {l} made =
      ext_get_or (f 0) l (tab n f) (made.long ∙ sym (length-tab n f))
      (λ k h. cell n 0 c l (f 0) refl (omega arith) made.each k (omega arith) (omega (arith, made.long)) ∙ sym (get_or-tab n f k (f 0) (omega (arith, made.long))))
