-- Laws of a list placed in another.
-- Assumes nothing.
use mathlib.Core.Path.{◌≡◌, sym, ap, ◌∙◌}
use mathlib.Core.List.{List, [], ◌∷◌, ◌++◌, append_assoc}
use Prim.Native.Nat.{ℕ, ◌+◌, ◌<◌, ◌≤◌}
use native.Mathlib.Nat.{add-zero, add_assoc}
use native.Mathlib.Numerals.{add-one}
use lib.ListN.{length, take, drop, set, length-append, take-append-drop}
use lib.Seq.{length-take-le, take_at, drop-append-add, drop-drop, set_split}
use Rattle.bits.specs.Tab.{placed}

module _ {A : Type 0} where
  -- nothing placed changes nothing
  pub placed-nil : (at : ℕ) (d : List A) → placed at [] d ≡ d
  placed-nil at d = rw add-zero (take-append-drop at d)

  -- one cell placed is one store
  pub placed_one : (at : ℕ) (a : A) (d : List A) → at < length d → set d at a ≡ placed at (a ∷ []) d
  placed_one at a d h = rw add-one (set_split d at a h)

  -- a list placed behind another is the two placed as one
  pub placed-placed : (at : ℕ) (l m d : List A) → at ≤ length d → placed (at + length l) m (placed at l d) ≡ placed at (l ++ m) d
  placed-placed at l m d h =
      let front : List A = take at d ++ l in
      let rest : List A = drop (at + length l) d in
      let long : length front ≡ at + length l = length-append (take at d) l ∙ ap (λ (n : ℕ). n + length l) (length-take-le at d h) in
      let whole : placed at l d ≡ front ++ rest = sym (append_assoc (take at d) l rest) in
      let end : drop (at + length l + length m) (front ++ rest) ≡ drop (at + length l + length m) d
      = (rw long at (drop-append-add front rest (length m))) ∙ drop-drop (length m) (at + length l) d in
      rw (whole, take_at front rest (at + length l) long, end, length-append, ← add_assoc) (simp append_assoc)
