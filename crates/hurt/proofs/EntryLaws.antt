-- Laws of the entries: one more of them, and how long they are.
-- Assumes nothing.
use mathlib.Core.Path.{◌≡◌, refl}
use mathlib.Core.Bool.{Bool, true, false}
use mathlib.Core.List.{List, [], ◌∷◌, ◌++◌, append_assoc, append-nil}
use Prim.Native.Nat.{ℕ, ◌+◌, ◌/◌, ◌<◌, ◌≤◌}
use native.Mathlib.Nat.{add-zero, zero-add}
use native.Mathlib.Numerals.{add-one}
use native.Mathlib.Omega.{arith}
use borrow.Author.Tests.{eq-eqb, ne_eqb, ltb-true, ltb-false}
use lib.Dec.{ltb}
use lib.ListN.{length, take, get_or}
use lib.Seq.{take-suc, length-take-le}
use Rattle.line.specs.Line.{decimal, field}
use Rattle.line.proofs.LineLaws.{decimal-one-length, decimal-more-length}
use Rattle.hurt.specs.Hurt.{entry, entries_from}

-- a number below 1000 has at most three digits
pub decimal-short : (n : ℕ) → n ≤ 999 → length (decimal n) ≤ 3
decimal-short n h = by (ltb n 10) (ltb n 100) refl refl
  where
    by : (t u : Bool) → ltb n 10 ≡ t → ltb n 100 ≡ u → length (decimal n) ≤ 3
    by true u e f = omega (arith, decimal-one-length n (ltb-true n 10 e))
    by false true e f =
        let least = ltb-false n 10 e in
        let most = ltb-true n 100 f in
        omega (arith, decimal-more-length n least (omega arith), decimal-one-length (n / 10) (omega arith))
    by false false e f =
        let least = ltb-false n 100 f in
        omega (arith, decimal-more-length n (omega arith) (omega arith), decimal-more-length (n / 10) (omega arith) (omega arith), decimal-one-length (n / 10 / 10) (omega arith))

pub field-short : (n : ℕ) → n ≤ 999 → length (field n) ≤ 4
unfolding field
field-short n h = omega (arith, decimal-short n h)

-- the entry of a count, by whether it is 0
pub entry-none : (t c : ℕ) → c ≡ 0 → entry t c ≡ []
unfolding entry
entry-none t c e = rw (eq-eqb c 0 e)

pub entry-some : {x : ℕ} (t c : ℕ) → (c ≡ 0 → ⊥) → x ≡ c → entry t c ≡ field t ++ (58 ∷ decimal x)
unfolding entry
entry-some t c n e = rw (ne_eqb c 0 n, e)

-- one count more
entries-append : (t : ℕ) (counts : List ℕ) (c : ℕ) → entries_from t (counts ++ (c ∷ [])) ≡ entries_from t counts ++ entry (t + length counts) c
unfolding entries_from
entries-append t [] c = rw (add-zero t) (append-nil (entry t c))
entries-append t (b ∷ counts) c =
    let at : t + 1 + length counts ≡ t + length (b ∷ counts) = omega arith in
    rw (entries-append (t + 1) counts c, at, append_assoc)

pub entries-more : (l : List ℕ) (i : ℕ) → i < length l → entries_from 0 (take i l) ++ entry i (get_or l i 0) ≡ entries_from 0 (take (i + 1) l)
entries-more l i h =
    rw (add-one i, take-suc l i 0 h, entries-append 0 (take i l) (get_or l i 0), length-take-le i l (omega arith), zero-add i)
