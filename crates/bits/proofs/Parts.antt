-- A part of a list that is lent: what its cells are, and the whole with the part filled.
-- Assumes nothing.
use mathlib.Core.Path.{◌≡◌, sym, ap, ◌∙◌}
use mathlib.Core.List.{List, ◌++◌, append_assoc}
use Prim.Native.Nat.{ℕ, ◌+◌, ◌-◌, ◌<◌, ◌≤◌}
use native.Mathlib.Omega.{arith}
use lib.ListN.{length, get_or, take, drop, length-append, length-drop, take-append-drop}
use lib.Seq.{drop-drop}
use borrow.Rule.Slice.PartMut.{post_of, Post-is}
use Rattle.std.proofs.lemmas.List.{length-take, drop-append-le, get_or-take, get_or-drop}
use Rattle.bits.specs.Tab.{tab, over, over_at}
use Rattle.bits.proofs.Fill.{Filled, FilledAt}
use Rattle.bits.proofs.Tabs.{tab-get_or, length-over_at}

module _ {A : Type 0} where
  -- a cell of a part
  pub get_or-part : (a n j : ℕ) (l : List A) (z : A) → j < length (take n (drop a l)) → get_or (take n (drop a l)) j z ≡ get_or l (a + j) z
  get_or-part a n j l z h = get_or-take n (drop a l) j z (omega (arith, length-take n (drop a l))) ∙ get_or-drop a l j z

  -- a list copied to the front of another
  pub front_copied : {p l : List A} (z : A) (d : List A) → p ≡ l → p ++ drop (length l) d ≡ over (length l) (λ i. get_or l i z) d
  front_copied {p} {l} z d e = ap (λ (l' : List A). l' ++ drop (length l) d) (e ∙ sym (tab-get_or l z))

  -- a part that is as a rule says
  pub part_is : (f : ℕ → A) {p : List A} (at n : ℕ) (d : List A) → p ≡ tab n f → take at d ++ (p ++ post_of at (at + n - at) d) ≡ over_at at n f d
  part_is f at n d e = rw (Post-is at (at + n) d (omega arith), e)

  -- a part in front of which so many cells are filled, and one from a place on
  pub front-filled : {f : ℕ → A} {p : List A} {m : ℕ} (n : ℕ) (d : List A) → Filled f (take n d) m p → Filled f d m (p ++ drop n d)
  front-filled {f} {p} {m} n d w =
      let whole : take n d ++ drop n d ≡ d = take-append-drop n d in
      let rest : drop m (take n d) ++ drop n d ≡ drop m d = sym (drop-append-le m (take n d) (drop n d) w.within) ∙ ap (drop m) whole in
      let long : length (take n d) + length (drop n d) ≡ length d = sym (length-append (take n d) (drop n d)) ∙ ap length whole in
      record {
        is = rw w.is (append_assoc (tab m f) _ _ ∙ ap (λ (l : List A). tab m f ++ l) rest);
        long = omega (arith, length-append p (drop n d), w.long, long);
        within = omega (arith, w.within, long);
      }

  pub part-filled : {f : ℕ → A} {p : List A} {m : ℕ} (at k : ℕ) (d : List A) → Filled f (take k (drop at d)) m p → at ≤ length d
      → FilledAt f d at m (take at d ++ (p ++ drop k (drop at d)))
  part-filled {f} {p} {m} at k d w h =
      let part : Filled f (drop at d) m (p ++ drop k (drop at d)) = front-filled k (drop at d) w in
      let within : at + m ≤ length d = omega (arith, part.within, length-drop at d) in
      let is : take at d ++ (p ++ drop k (drop at d)) ≡ over_at at m f d = rw (part.is, drop-drop m at d) in
      record { is = is; long = ap length is ∙ length-over_at at m f d within; within = within }
