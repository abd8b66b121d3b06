-- Laws of lists that the kit's `lib.ListN`, `lib.Seq` and `mathlib.Core.List` lack.
-- Assumes nothing.
use mathlib.Core.Path.{◌≡◌, refl, sym, ap, ◌∙◌}
use mathlib.Core.List.{List, [], ◌∷◌, ◌++◌, append-nil, foldl, foldl-append, flat_map}
use Prim.Native.Nat.{ℕ, zero, suc, ◌+◌, ◌-◌, ◌<◌}
use native.Mathlib.Nat.{sub-zero, zero-sub}
use native.Mathlib.Numerals.{add-one}
use native.Mathlib.Omega.{arith}
use lib.ListN.{length, get_or, take, drop, length-append}
use lib.Seq.{take-nil, take-suc, take_at}
use Rattle.std.proofs.lemmas.Grind.{flat_map-append}
use Rattle.bits.specs.Tab.{tab, over}
use Rattle.bits.proofs.Tabs.{length-tab}

module _ {A : Type 0} where
  -- one more at the end
  pub length_more : (l : List A) (a : A) → length (l ++ (a ∷ [])) ≡ length l + 1
  length_more l a = length-append l (a ∷ [])

  -- the part of a list from one place to another, either way
  pub drop-take : (n m : ℕ) (l : List A) → drop n (take m l) ≡ take (m - n) (drop n l)
  drop-take zero m l = rw sub-zero
  drop-take (suc n) zero l = rw zero-sub
  drop-take (suc n) (suc m) [] = sym (take-nil (suc m - suc n))
  drop-take (suc n) (suc m) (x ∷ l) =
      let e : suc m - suc n ≡ m - n = omega arith in
      rw e (drop-take n m l)

  -- a list cut at n, with more behind it, and cut again
  pub take-take-append : (n : ℕ) (xs ys : List A) → take n (take n xs ++ ys) ≡ take n (xs ++ ys)
  take-take-append zero xs ys = refl
  take-take-append (suc n) [] ys = refl
  take-take-append (suc n) (x ∷ xs) ys = ap (λ (l : List A). x ∷ l) (take-take-append n xs ys)

  pub take-take-nil : (n : ℕ) (xs : List A) → take n (take n xs ++ []) ≡ take n xs
  take-take-nil n xs = take-take-append n xs [] ∙ ap (take n) (append-nil xs)

  -- the first cells of a list that was filled
  pub take-over : (n : ℕ) (f : ℕ → A) (d : List A) → take n (over n f d) ≡ tab n f
  take-over n f d = take_at (tab n f) _ n (length-tab n f)

module _ {A B : Type 0} where
  -- one element more of a list that is gone through from the front, with a state or with a list for each
  pub foldl-more : (f : B → A → B) (b : B) (l : List A) (i : ℕ) (z : A) → i < length l → f (foldl f b (take i l)) (get_or l i z) ≡ foldl f b (take (i + 1) l)
  foldl-more f b l i z h = rw (add-one i, take-suc l i z h) (sym (foldl-append f b (take i l) (get_or l i z ∷ [])))

  pub flat_map-more : (f : A → List B) (l : List A) (i : ℕ) (z : A) → i < length l → flat_map f (take i l) ++ f (get_or l i z) ≡ flat_map f (take (i + 1) l)
  unfolding flat_map
  flat_map-more f l i z h =
      rw (add-one i, take-suc l i z h, flat_map-append f (take i l) (get_or l i z ∷ []), append-nil (f (get_or l i z)))
