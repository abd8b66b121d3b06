-- A list of a fixed room, of which a part is in use and the rest is 0.
-- Assumes nothing.
use Rattle.std.proofs.Common.{◌≡◌, ◌++◌, ◌+◌, ◌-◌, ◌<◌, ◌≤◌, ℕ, List, length, take, drop, replicate, slice_set, refl, sym, ◌∙◌, arith}
use Rattle.std.proofs.Math.Seq.{drop-append-add}
use Rattle.std.proofs.lemmas.List.{take-append-drop, drop-replicate, replicate-append-replicate, take_more_set, drop-set-lt}
use Rattle.bits.proofs.Lists.{length_more}
use Rattle.text.specs.Held.{padded}

module _ (room : ℕ) where
  -- behind the part in use stands 0
  dropped : (ys : List ℕ) (n k : ℕ) → length ys ≡ n → drop (n + k) (padded room ys) ≡ replicate ((room - n) - k) 0
  dropped ys n k long =
      rw (← long) (drop-append-add ys (replicate (room - length ys) 0) k ∙ drop-replicate k (room - length ys) 0)

  -- and where that is so, the list is its part in use, padded
  pub padded-front : (xs : List ℕ) (n : ℕ) → length (take n xs) ≡ n → drop n xs ≡ replicate (room - n) 0 → padded room (take n xs) ≡ xs
  padded-front xs n long blank = rw (long, ← blank) (take-append-drop n xs)

  -- one more is put behind the part in use
  pub length-front-more : (xs : List ℕ) (n v : ℕ) → n < length xs → length (take n xs) ≡ n → length (take (n + 1) (slice_set xs n v)) ≡ n + 1
  length-front-more xs n v few long = rw (take_more_set xs n v few, length_more (take n xs) v, long) refl

  pub padded-more : (xs : List ℕ) (n v : ℕ) → n < length xs → length xs ≡ room → length (take n xs) ≡ n → padded room (take n xs) ≡ xs
      → padded room (take (n + 1) (slice_set xs n v)) ≡ slice_set xs n v
  padded-more xs n v few whole long made = padded-front (slice_set xs n v) (n + 1) (length-front-more xs n v few long) blank
    where
      less : (room - n) - 1 ≡ room - (n + 1)
      less = omega arith

      blank : drop (n + 1) (slice_set xs n v) ≡ replicate (room - (n + 1)) 0
      blank = drop-set-lt (n + 1) xs n v (omega arith) ∙ rw (made, less) at (dropped (take n xs) n 1 long)

  -- nothing is in use any more, where the part that was is 0 too
  pub padded-none : (xs : List ℕ) (n : ℕ) → n ≤ room → length (take n xs) ≡ n → padded room (take n xs) ≡ xs
      → replicate room 0 ≡ replicate n 0 ++ drop n xs
  padded-none xs n few long made =
      let behind : drop n xs ≡ replicate (room - n) 0 = rw (made, all_of n, none_of (room - n)) at (dropped (take n xs) n 0 long) in
      let whole : n + (room - n) ≡ room = omega (arith, few) in
      rw behind (sym (rw whole at (replicate-append-replicate {A = ℕ} n (room - n) 0)))
    where
      all_of : (k : ℕ) → k + 0 ≡ k
      all_of k = omega arith

      none_of : (k : ℕ) → k - 0 ≡ k
      none_of k = omega arith
