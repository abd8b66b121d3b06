-- Laws of the checks of 17, and of the sums that they guard.
-- Assumes nothing.
use mathlib.Core.Path.{◌≡◌, refl, sym, ap, ◌∙◌}
use mathlib.Core.Bool.{true, false, not}
use Prim.Native.Nat.{ℕ, ◌+◌, ◌-◌, ◌<◌, ◌≤◌}
use native.Mathlib.Omega.{arith}
use native.Mathlib.Decide.{ℕ_discrete}
use lib.Dec.{leb, eqb}
use lib.ListN.{length, get_or, set}
use borrow.Author.Tests.{le-leb, lt-leb, eq-eqb, ne_eqb}
use Rattle.std.proofs.lemmas.List.{length-set, get_or-set_same, get_or-set_other}
use Rattle.bits.specs.Bit.{as_bit}
use Rattle.bits.specs.Search.{first}
use Rattle.bits.specs.Tab.{tab, blank}
use Rattle.bits.proofs.Tabs.{tab-get_or, tab-cong, length-blank, get_or-blank}
use Rattle.bits.proofs.Searches.{first-here, first_more, first-end}
use Rattle.tally.specs.Tally.{most, passes}

-- the search for a sum that passes: it ends here, it goes on, it has come to its end
module _ (f : ℕ → ℕ) (i : ℕ) (so_far : first (passes f) 13 0 ≡ first (passes f) (13 - i) i) where
  pub rooms-no : i < 13 → leb (f i) most ≡ false → false ≡ leb 13 (first (passes f) 13 0)
  unfolding passes
  rooms-no h e = sym (lt-leb 13 (first (passes f) 13 0) (rw (so_far, first-here (passes f) 13 i h (ap not e)) h))

  pub rooms-on : i < 13 → leb (f i) most ≡ true → first (passes f) 13 0 ≡ first (passes f) (13 - (i + 1)) (i + 1)
  unfolding passes
  rooms-on h e = so_far ∙ first_more (passes f) 13 i h (ap not e)

  pub rooms-yes : 13 ≤ i → true ≡ leb 13 (first (passes f) 13 0)
  rooms-yes h = sym (le-leb 13 (first (passes f) 13 0) (rw (so_far, first-end (passes f) 13 i h) h))

-- a list of nothing with one in a cell
pub one_in : (n k : ℕ) → k < n → set (blank n 0) k 1 ≡ tab n (λ i. as_bit (eqb k i))
one_in n k h =
    let long : length {A = ℕ} (set (blank n 0) k 1) ≡ n = length-set (blank n 0) k 1 ∙ length-blank n 0 in
    sym (tab-get_or (set (blank n 0) k 1) 0) ∙ rw long (tab-cong n _ (λ i. as_bit (eqb k i)) (λ i l. at i l (ℕ_discrete i k)))
  where
    at : (i : ℕ) → i < n → Dec (i ≡ k) → get_or (set (blank n 0) k 1) i 0 ≡ as_bit (eqb k i)
    at i l (yes e) = let here : k < length {A = ℕ} (blank n 0) = omega (arith, length-blank {A = ℕ} n 0) in rw (e, eq-eqb k k refl) (get_or-set_same (blank n 0) k 1 0 here)
    at i l (no e) = rw (ne_eqb k i (λ q. e (sym q))) (get_or-set_other (blank n 0) k i 1 0 e ∙ get_or-blank n i 0 0 l)
