-- Laws of a writer's steps.
-- Assumes nothing.
use mathlib.Core.Path.{◌≡◌, refl, sym, ◌∙◌}
use mathlib.Core.List.{List, [], ◌∷◌, ◌++◌}
use Prim.Native.Nat.{ℕ, ◌+◌, ◌<◌, ◌≤◌}
use native.Mathlib.Nat.{add-zero}
use native.Mathlib.Omega.{arith}
use lib.ListN.{length, set, length-set, length-append}
use Rattle.bits.specs.Tab.{placed}
use Rattle.bits.proofs.Placed.{placed-nil, placed_one, placed-placed}
use Rattle.put.specs.Put.{Put}

module _ {A : Type 0} where
  -- nothing written
  pub put-none : (at : ℕ) (d : List A) → at ≤ length d → Put at [] d d at
  put-none at d h = record { next = sym (add-zero at); is = sym (placed-nil at d); long = refl; within = omega arith }

  -- one item written
  pub put_one : (at : ℕ) (a : A) (d : List A) → at < length d → Put at (a ∷ []) d (set d at a) (at + 1)
  put_one at a d h = record { next = refl; is = placed_one at a d h; long = length-set d at a; within = omega arith }

  -- two steps are one
  pub put_on : {at r s : ℕ} {l m d e f : List A} → Put at l d e r → Put r m e f s → Put at (l ++ m) d f s
  put_on {at} {r} {s} {l} {m} {d} {e} {f} p q =
      let long : length (l ++ m) ≡ length l + length m = length-append l m in
      record {
        next = omega (arith, p.next, q.next);
        is = q.is ∙ (rw (p.next, p.is) (placed-placed at l m d (omega (arith, p.within))));
        long = q.long ∙ p.long;
        within = omega (arith, p.next, p.long, q.within);
      }

  -- what was written from the start on
  pub put_all : {l d e : List A} {r : ℕ} → Put 0 l d e r → (r ≡ length l) × (e ≡ placed 0 l d)
  put_all p = (omega (arith, p.next), p.is)
