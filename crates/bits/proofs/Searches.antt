-- Laws of searches and counts.
-- Assumes nothing.
use mathlib.Core.Path.{◌≡◌, refl, sym, ap, ◌∙◌}
use mathlib.Core.Bool.{Bool, true, false, not, cond}
use Prim.Native.Nat.{ℕ, zero, suc, ◌+◌, ◌-◌, ◌<◌, ◌≤◌}
use native.Mathlib.Nat.{add-zero, add-suc}
use native.Mathlib.Numerals.{add-one}
use native.Mathlib.Omega.{arith}
use native.Mathlib.Decide.{ℕ_discrete}
use lib.Dec.{leb, ltb}
use borrow.Author.Tests.{leb-true, leb-false, le-leb, lt-leb, ltb-true, ltb-false}
use Rattle.bits.specs.Bit.{as_bit}
use Rattle.bits.specs.Search.{first, how_many}

module _ (p : ℕ → Bool) where
  -- a search that stands at i and ends at e: it goes on, it ends here, it has come to its end
  pub first_more : (e i : ℕ) → i < e → p i ≡ false → first p (e - i) i ≡ first p (e - (i + 1)) (i + 1)
  unfolding first
  first_more e i h b =
      let s : e - i ≡ suc (e - (i + 1)) = omega arith in
      rw (s, b)

  pub first-here : (e i : ℕ) → i < e → p i ≡ true → first p (e - i) i ≡ i
  unfolding first
  first-here e i h b =
      let s : e - i ≡ suc (e - (i + 1)) = omega arith in
      rw (s, b)

  pub first-end : (e i : ℕ) → e ≤ i → first p (e - i) i ≡ i
  unfolding first
  first-end e i h =
      let s : e - i ≡ 0 = omega arith in
      rw s

  step-le : (b : Bool) (n i r : ℕ) → i + 1 ≤ r → r ≤ i + 1 + n → (i ≤ cond b i r) × (cond b i r ≤ i + suc n)
  step-le true n i r h l = omega arith
  step-le false n i r h l = omega arith

  pub first_range : (n i : ℕ) → (i ≤ first p n i) × (first p n i ≤ i + n)
  unfolding first
  first_range zero i = omega arith
  first_range (suc n) i =
      let (low, high) = first_range n (i + 1) in
      step-le (p i) n i (first p n (i + 1)) low high

  pub first_found : (n i : ℕ) → first p n i < i + n → p (first p n i) ≡ true
  unfolding first
  first_found zero i h = absurd (omega arith)
  first_found (suc n) i h = go (p i) refl h (first_found n (i + 1))
    where
      go : (b : Bool) → p i ≡ b → cond b i (first p n (i + 1)) < i + suc n
          → (first p n (i + 1) < i + 1 + n → p (first p n (i + 1)) ≡ true) → p (cond b i (first p n (i + 1))) ≡ true
      go true e l later = e
      go false e l later = later (omega arith)

  pub first-before : (n i k : ℕ) → i ≤ k → k < first p n i → p k ≡ false
  unfolding first
  first-before zero i k h l = absurd (omega arith)
  first-before (suc n) i k h l = go (p i) refl l (ℕ_discrete k i) (first-before n (i + 1) k)
    where
      go : (b : Bool) → p i ≡ b → k < cond b i (first p n (i + 1)) → Dec (k ≡ i) → (i + 1 ≤ k → k < first p n (i + 1) → p k ≡ false) → p k ≡ false
      go true e m d later = absurd (omega arith)
      go false e m (yes q) later = ap p q ∙ e
      go false e m (no q) later = later (omega arith) m

  -- the place of the first, known
  pub first-is : (n i k : ℕ) → i ≤ k → k < i + n → p k ≡ true → ((m : ℕ) → i ≤ m → m < k → p m ≡ false) → first p n i ≡ k
  unfolding first
  first-is zero i k h l t f = absurd (omega arith)
  first-is (suc n) i k h l t f = at (ℕ_discrete i k) (λ a. first-is n (i + 1) k a (omega arith) t (λ m b d. f m (omega arith) d))
    where
      at : Dec (i ≡ k) → (i + 1 ≤ k → first p n (i + 1) ≡ k) → cond (p i) i (first p n (i + 1)) ≡ k
      at (yes q) later = rw (ap p q ∙ t) q
      at (no q) later = rw (f i (omega arith) (omega arith)) (later (omega arith))

  pub first-none : (n i : ℕ) → ((m : ℕ) → i ≤ m → m < i + n → p m ≡ false) → first p n i ≡ i + n
  unfolding first
  first-none zero i f = sym (add-zero i)
  first-none (suc n) i f = rw (f i (omega arith) (omega arith)) (first-none n (i + 1) (λ m a b. f m (omega arith) (omega arith)) ∙ omega arith)

  -- a search over m and then n places, of which the first m hold nothing
  pub first-skip : (m n i : ℕ) → ((k : ℕ) → i ≤ k → k < i + m → p k ≡ false) → first p (m + n) i ≡ first p n (i + m)
  unfolding first
  first-skip zero n i f =
      let z : 0 + n ≡ n = omega arith in
      let y : i + 0 ≡ i = omega arith in
      rw (z, y)
  first-skip (suc m) n i f =
      let z : suc m + n ≡ suc (m + n) = omega arith in
      let y : i + suc m ≡ i + 1 + m = omega arith in
      rw (z, y, f i (omega arith) (omega arith)) (first-skip m n (i + 1) (λ k a b. f k (omega arith) (omega arith)))

pub first_cong : (p q : ℕ → Bool) (n i : ℕ) → ((k : ℕ) → i ≤ k → k < i + n → p k ≡ q k) → first p n i ≡ first q n i
unfolding first
first_cong p q zero i e = refl
first_cong p q (suc n) i e = rw (e i (omega arith) (omega arith), first_cong p q n (i + 1) (λ k a b. e k (omega arith) (omega arith)))

pub as_bit-le : (b : Bool) → as_bit b ≤ 1
as_bit-le true = omega arith
as_bit-le false = omega arith

module _ (p : ℕ → Bool) where
  pub how_many-more : {a x : ℕ} (n : ℕ) → a ≡ how_many p n → x ≡ as_bit (p n) → a + x ≡ how_many p (n + 1)
  unfolding how_many
  how_many-more n e q = rw (e, q, add-one)

  pub how_many-le : (n : ℕ) → how_many p n ≤ n
  unfolding how_many
  how_many-le zero = omega arith
  how_many-le (suc n) = omega (arith, how_many-le n, as_bit-le (p n))

  pub how_many-none : (n : ℕ) → ((k : ℕ) → k < n → p k ≡ false) → how_many p n ≡ 0
  unfolding how_many
  how_many-none zero f = refl
  how_many-none (suc n) f = rw (how_many-none n (λ k h. f k (omega arith)), f n (omega arith))

  -- where none is counted the test holds nowhere
  pub how_many-zero : (n : ℕ) → how_many p n ≡ 0 → (k : ℕ) → k < n → p k ≡ false
  unfolding how_many
  how_many-zero zero e k h = absurd (omega arith)
  how_many-zero (suc n) e k h = go (ℕ_discrete k n) (p n) refl e (λ z. how_many-zero n z k)
    where
      go : Dec (k ≡ n) → (b : Bool) → p n ≡ b → how_many p n + as_bit b ≡ 0 → (how_many p n ≡ 0 → k < n → p k ≡ false) → p k ≡ false
      go d true f z below = absurd (omega arith)
      go (yes q) false f z below = ap p q ∙ f
      go (no q) false f z below = below (omega arith) (omega arith)

  -- where some place is counted, the search finds one
  pub how_many-some : (n : ℕ) → 0 < how_many p n → first p n 0 < n
  how_many-some n h = at (ltb (first p n 0) n) refl
    where
      at : (b : Bool) → ltb (first p n 0) n ≡ b → first p n 0 < n
      at true e = ltb-true (first p n 0) n e
      at false e =
          let behind : n ≤ first p n 0 = ltb-false (first p n 0) n e in
          absurd (omega (arith, how_many-none n (λ k l. first-before p n 0 k (omega arith) (omega arith))))

-- the test holds at a place or it does not
pub how_many-rest : (p : ℕ → Bool) (n : ℕ) → how_many (λ i. not (p i)) n + how_many p n ≡ n
unfolding how_many
how_many-rest p zero = refl
how_many-rest p (suc n) = by (p n) (how_many-rest p n)
  where
    by : (b : Bool) → how_many (λ i. not (p i)) n + how_many p n ≡ n → how_many (λ i. not (p i)) n + as_bit (not b) + (how_many p n + as_bit b) ≡ suc n
    by true e = omega arith
    by false e = omega arith

pub how_many-cong : (p q : ℕ → Bool) (n : ℕ) → ((k : ℕ) → k < n → p k ≡ q k) → how_many p n ≡ how_many q n
unfolding how_many
how_many-cong p q zero e = refl
how_many-cong p q (suc n) e = rw (how_many-cong p q n (λ k h. e k (omega arith)), e n (omega arith))

-- where p holds q does
pub how_many-mono : (p q : ℕ → Bool) (n : ℕ) → ((k : ℕ) → k < n → p k ≡ true → q k ≡ true) → how_many p n ≤ how_many q n
unfolding how_many
how_many-mono p q zero e = omega arith
how_many-mono p q (suc n) e = omega (arith, how_many-mono p q n (λ k h. e k (omega arith)), one (p n) (q n) (e n (omega arith)))
  where
    one : (a b : Bool) → (a ≡ true → b ≡ true) → as_bit a ≤ as_bit b
    one true b h = rw (h refl) (omega arith)
    one false b h = omega arith

-- a search, and a count, among places that are counted from a on
pub first-shift : (p : ℕ → Bool) (a n i : ℕ) → first p n (a + i) ≡ a + first (λ k. p (a + k)) n i
unfolding first
first-shift p a zero i = refl
first-shift p a (suc n) i =
    let e : a + i + 1 ≡ a + (i + 1) = omega arith in
    rw (e, first-shift p a n (i + 1)) (out (p (a + i)))
  where
    out : (b : Bool) → cond b (a + i) (a + first (λ k. p (a + k)) n (i + 1)) ≡ a + cond b i (first (λ k. p (a + k)) n (i + 1))
    out true = refl
    out false = refl

pub how_many-add : (p : ℕ → Bool) (a n : ℕ) → how_many p (a + n) ≡ how_many p a + how_many (λ k. p (a + k)) n
unfolding how_many
how_many-add p a zero = rw (add-zero, add-zero)
how_many-add p a (suc n) = rw (add-suc, how_many-add p a n) (omega arith)

-- a search over fewer places: it finds the same where that is among them, else nothing
pub first-fewer : (p : ℕ → Bool) (m n i : ℕ) → m ≤ n → first p n i < i + m → first p m i ≡ first p n i
first-fewer p m n i h l =
    let (low, high) = first_range p n i in
    first-is p m i (first p n i) low l (first_found p n i (omega arith)) (λ k a b. first-before p n i k a b)

pub first-later : (p : ℕ → Bool) (m n i : ℕ) → i + m ≤ first p n i → first p m i ≡ i + m
first-later p m n i h = first-none p m i (λ k a b. first-before p n i k a (omega arith))

-- whether a search finds nothing, as a loop over its places learns it
module _ (p : ℕ → Bool) (from i : ℕ) (low : from ≤ i) where
  -- before the place i, and with it
  abbrev before : ℕ
  before = first p (i - from) from

  abbrev after : ℕ
  after = first p (i + 1 - from) from

  -- the test holds at the place: the search with it finds something
  pub none_here : p i ≡ true → false ≡ leb (i + 1) after
  none_here t = at (leb (i + 1) after) refl
    where
      at : (b : Bool) → leb (i + 1) after ≡ b → false ≡ b
      at false e = refl
      at true e =
          let behind : i < after = omega (arith, leb-true (i + 1) after e) in
          sym (first-before p (i + 1 - from) from i low behind) ∙ t

  -- it does not: the search finds something if it did before
  pub none-on : p i ≡ false → leb i before ≡ leb (i + 1) after
  none-on f = at (leb i before) refl
    where
      clear : (k : ℕ) → from ≤ k → Dec (k ≡ i) → i ≤ before → k < from + (i + 1 - from) → p k ≡ false
      clear k a (yes q) behind l = ap p q ∙ f
      clear k a (no q) behind l = first-before p (i - from) from k a (omega arith)

      at : (b : Bool) → leb i before ≡ b → b ≡ leb (i + 1) after
      at true e =
          let behind : i ≤ before = leb-true i before e in
          sym (le-leb (i + 1) after (omega (arith, first-none p (i + 1 - from) from (λ k a b. clear k a (ℕ_discrete k i) behind b))))
      at false e =
          let found : before < i = leb-false i before e in
          let (least, most) = first_range p (i - from) from in
          let same : after ≡ before = first-is p (i + 1 - from) from before least (omega arith) (first_found p (i - from) from (omega arith)) (λ k a b. first-before p (i - from) from k a b) in
          sym (lt-leb (i + 1) after (omega arith))

-- a search of no places finds nothing
pub none-start : (p : ℕ → Bool) (from : ℕ) → true ≡ leb from (first p (from - from) from)
none-start p from =
    let (least, most) = first_range p (from - from) from in
    sym (le-leb from (first p (from - from) from) least)

-- one that finds nothing ends behind its places
pub none_end : (p : ℕ → Bool) (from end : ℕ) → from ≤ end → leb end (first p (end - from) from) ≡ true → end ≡ first p (end - from) from
none_end p from end low e = omega (arith, leb-true end (first p (end - from) from) e, first_range p (end - from) from)
