-- Laws of sums.
-- Assumes nothing.
use mathlib.Core.Path.{◌≡◌, refl, ap, ap₂, ◌∙◌}
use mathlib.Core.Bool.{Bool, true, false, ◌&&◌}
use mathlib.Core.List.{List, [], ◌∷◌, ◌++◌}
use Prim.Native.Nat.{ℕ, zero, suc, ◌+◌, ◌<◌}
use native.Mathlib.Decide.{ℕ_discrete}
use native.Mathlib.Omega.{arith}
use lib.Dec.{eqb}
use borrow.Author.Tests.{eq-eqb, ne_eqb}
use Rattle.bits.specs.Bit.{as_bit}
use Rattle.bits.specs.Search.{how_many}
use Rattle.bits.specs.Sum.{sum}
use Rattle.bits.specs.Tab.{tab}

sum-append : (l k : List ℕ) → sum (l ++ k) ≡ sum l + sum k
unfolding sum
sum-append [] k = omega arith
sum-append (a ∷ l) k = omega (arith, sum-append l k)

pub sum_more : (n : ℕ) (f : ℕ → ℕ) → sum (tab (suc n) f) ≡ sum (tab n f) + f n
unfolding tab sum
sum_more n f = omega (arith, sum-append (tab n f) (f n ∷ []))

pub sum-zero : (n : ℕ) (f : ℕ → ℕ) → ((t : ℕ) → t < n → f t ≡ 0) → sum (tab n f) ≡ 0
unfolding tab sum
sum-zero zero f z = refl
sum-zero (suc n) f z = sum_more n f ∙ omega (arith, sum-zero n f (λ t h. z t (omega arith)), z n (omega arith))

pub sum-add : (n : ℕ) (f g : ℕ → ℕ) → sum (tab n (λ t. f t + g t)) ≡ sum (tab n f) + sum (tab n g)
unfolding tab sum
sum-add zero f g = refl
sum-add (suc n) f g = sum_more n (λ t. f t + g t) ∙ omega (arith, sum-add n f g, sum_more n f, sum_more n g)

-- a single cell
pub sum_one : (n k : ℕ) (b : Bool) → (b ≡ true → k < n) → sum (tab n (λ t. as_bit (b && eqb k t))) ≡ as_bit b
sum_one n k false h = sum-zero n _ (λ t l. refl)
sum_one zero k true h = absurd (omega (arith, h refl))
sum_one (suc n) k true h = sum_more n (λ t. as_bit (eqb k t)) ∙ at (ℕ_discrete k n) (λ l. sum_one n k true (λ _. l))
  where
    at : Dec (k ≡ n) → (k < n → sum (tab n (λ t. as_bit (eqb k t))) ≡ 1) → sum (tab n (λ t. as_bit (eqb k t))) + as_bit (eqb k n) ≡ 1
    at (yes e) below = rw (eq-eqb k n e) (omega (arith, sum-zero n (λ t. as_bit (eqb k t)) (λ t l. ap as_bit (ne_eqb k t (λ q. omega arith)))))
    at (no e) below = rw (ne_eqb k n e) (omega (arith, below (omega (arith, h refl))))

-- places counted by where they belong: of those that pass the test p, so many as belong to t; all together they are those that pass
pub sum-parts : (p : ℕ → Bool) (s : ℕ → ℕ) (m n : ℕ) → ((i : ℕ) → i < n → p i ≡ true → s i < m)
    → sum (tab m (λ t. how_many (λ i. p i && eqb (s i) t) n)) ≡ how_many p n
unfolding how_many
sum-parts p s m zero h = sum-zero m _ (λ t l. refl)
sum-parts p s m (suc n) h =
    sum-add m (λ t. how_many (λ i. p i && eqb (s i) t) n) (λ t. as_bit (p n && eqb (s n) t))
    ∙ ap₂ (λ (x y : ℕ). x + y) (sum-parts p s m n (λ i l. h i (omega arith))) (sum_one m (s n) (p n) (h n (omega arith)))
