-- After a clearing and any run of calls the tally counts what was put in.
-- Assumes nothing.
use mathlib.Core.Path.{◌≡◌, refl, sym, ap, ap₂, ◌∙◌}
use mathlib.Core.Bool.{Bool, true, false, true≢false}
use mathlib.Core.List.{List, [], ◌∷◌, ◌++◌}
use Prim.Native.Nat.{ℕ, ◌+◌, ◌<◌, ◌≤◌}
use native.Mathlib.Decide.{ℕ_discrete}
use native.Mathlib.Omega.{arith}
use Rattle.std.specs.Prelude.{Result, Ok, Err}
use lib.Dec.{eqb, leb, ltb}
use lib.ListN.{length-append, get_or}
use borrow.Author.Tests.{eq-eqb, ne_eqb, lt-ltb, le-ltb, leb-true}
use Rattle.bits.specs.Bit.{as_bit}
use Rattle.bits.specs.Check.{check}
use Rattle.bits.specs.Sum.{sum}
use Rattle.bits.specs.Tab.{tab, blank}
use Rattle.bits.proofs.Sums.{sum-zero, sum-add, sum_one}
use Rattle.bits.proofs.Tabs.{get_or-tab, tab-cong}
use Rattle.bits.proofs.Truth.{both_true}
use Rattle.lora.specs.Received.{Received}
use Rattle.refusal.specs.Refusal.{refuse}
use Rattle.refusal.specs.declared.Refusal.{Refusal}
use Rattle.tally.specs.declared.Tally.{Tally}
use Rattle.tally.specs.Tally.{read_gives, known, clean_of, repaired_of, refused_of, empty, one, sum_at, plus, fits, join_of, clear_of, hear_of, take_in_of, Leaves}
use Rattle.tally.specs.History.{History, outcomes, Ran, clears, hears, hears-not, takes, takes-not, sum_over, refusals, Counts}

-- what two lists add to a part, and what one outcome adds

sum_over-append : (f : Received → ℕ) (l m : List Received) → sum_over f (l ++ m) ≡ sum_over f l + sum_over f m
unfolding sum_over
sum_over-append f [] m = omega arith
sum_over-append f (o ∷ l) m = rw (sum_over-append f l m) (omega arith)

sum_over-one : (f : Received → ℕ) (o : Received) → sum_over f (o ∷ []) ≡ f o
unfolding sum_over
sum_over-one f o = omega arith

refusals-append : (l m : List Received) (n : ℕ) → refusals (l ++ m) n ≡ refusals l n + refusals m n
unfolding refusals
refusals-append l m n = sum_over-append (λ o. refused_of o n) l m

refusals-one : (o : Received) (n : ℕ) → refusals (o ∷ []) n ≡ refused_of o n
unfolding refusals
refusals-one o n = sum_over-one (λ p. refused_of p n) o

none_in : (n : ℕ) → refusals [] n ≡ 0
unfolding refusals sum_over
none_in n = refl

-- two tables of refusals in one

sum-at : {a b : List ℕ} (f g : ℕ → ℕ) → a ≡ tab 13 f → b ≡ tab 13 g → (n : ℕ) → n < 13 → sum_at a b n ≡ f n + g n
unfolding sum_at
sum-at f g p q n h = rw (p, q, get_or-tab 13 f n 0 h, get_or-tab 13 g n 0 h)

sums_at : {a b : List ℕ} (f g : ℕ → ℕ) → a ≡ tab 13 f → b ≡ tab 13 g → sum (tab 13 (sum_at a b)) ≡ sum a + sum b
sums_at {a} {b} f g p q =
    ap sum (tab-cong 13 (sum_at a b) (λ n. f n + g n) (sum-at f g p q)) ∙ (sum-add 13 f g ∙ ap₂ (λ (x y : ℕ). x + y) (ap sum (sym p)) (ap sum (sym q)))

-- the tally of nothing

pub counts-none : Counts empty []
unfolding empty sum_over refusals tab sum blank
counts-none = record { heard = refl; clean = refl; repaired = refl; refused = refl; parts = refl }

-- the tally of one outcome: it has one part and no other

accepted-parts : (r : ℕ) → as_bit (eqb r 0) + as_bit (ltb 0 r) ≡ 1
accepted-parts r = go (ℕ_discrete r 0)
  where
    go : Dec (r ≡ 0) → as_bit (eqb r 0) + as_bit (ltb 0 r) ≡ 1
    go (yes q) = rw (eq-eqb r 0 q, le-ltb 0 r (omega arith))
    go (no q) = rw (ne_eqb r 0 q, lt-ltb 0 r (omega arith))

pub at-most-12 : (n : ℕ) → read_gives n ≡ true → n ≤ 12
unfolding read_gives
at-most-12 n e = leb-true n 12 (both_true (leb n 12) _ (both_true (leb 1 n) _ e).1).0

one-parts : (o : Received) → known o ≡ true → 1 ≡ clean_of o + repaired_of o + sum (tab 13 (refused_of o))
one-parts (Ok a) e = omega (arith, accepted-parts a.repairs, sum-zero 13 (refused_of (Ok a)) (λ i h. refl))
one-parts (Err r) e = omega (arith, sum_one 13 r.number true (λ _. let l : r.number ≤ 12 = at-most-12 r.number e in omega arith))

pub counts-one : (o : Received) → known o ≡ true → Counts (one o) (o ∷ [])
unfolding one
counts-one o e = record {
  heard = refl;
  clean = sym (sum_over-one clean_of o);
  repaired = sym (sum_over-one repaired_of o);
  refused = tab-cong 13 (refused_of o) (refusals (o ∷ [])) (λ n h. sym (refusals-one o n));
  parts = one-parts o e;
}

-- two tallies in one

pub counts-plus : {t s : Tally} {l m : List Received} → Counts t l → Counts s m → Counts (plus t s) (l ++ m)
unfolding plus
counts-plus {t} {s} {l} {m} p q = record {
  heard = omega (arith, length-append l m, p.heard, q.heard);
  clean = omega (arith, sum_over-append clean_of l m, p.clean, q.clean);
  repaired = omega (arith, sum_over-append repaired_of l m, p.repaired, q.repaired);
  refused = tab-cong 13 (sum_at t.refused s.refused) (refusals (l ++ m))
      (λ n h. sum-at (refusals l) (refusals m) p.refused q.refused n h ∙ sym (refusals-append l m n));
  parts = omega (arith, p.parts, q.parts, sums_at (refusals l) (refusals m) p.refused q.refused);
}

-- a check passed

passed : (b : Bool) (n : ℕ) (next : Result Tally Refusal) {old new : Tally} → Leaves (check b (refuse n 0) next) old new (Ok tt) → (b ≡ true) × Leaves next old new (Ok tt)
passed true n next l = (refl, l)
passed false n next l = absurd (let z : ◌≡◌ {A = Result Unit Refusal} (Ok tt) (refuse n 0) = l.answer in cc z)

joined : (t s : Tally) {new : Tally} → Leaves (join_of t s) t new (Ok tt) → new ≡ plus t s
unfolding join_of
joined t s l = (passed (fits t s) 17 _ l).1.tally

-- whatever is said: a refused call leaves the tally as it was
keeps : (said : Result Tally Refusal) {old new : Tally} {refusal : Refusal} → Leaves said old new (Err refusal) → new ≡ old
keeps (Ok t) l = absurd (cc l.answer)
keeps (Err refusal) l = l.tally

-- whatever the tally was, made by hand or not
pub keeps-taking : (t s : Tally) {new : Tally} {refusal : Refusal} → Leaves (take_in_of t s) t new (Err refusal) → new ≡ t
keeps-taking t s = keeps (take_in_of t s)

pub keeps-hearing : (t : Tally) (o : Received) {new : Tally} {refusal : Refusal} → Leaves (hear_of t o) t new (Err refusal) → new ≡ t
keeps-hearing t o = keeps (hear_of t o)

-- the history theorem
pub counted : {h : History} {t : Tally} → Ran h t → Counts t (outcomes h)
unfolding outcomes clear_of hear_of take_in_of
counted (clears old e) = rw e counts-none
counted (hears {h} {t} o r l) =
    let (is-known, k) = passed (known o) 16 _ l in
    rw (joined t (one o) k) (counts-plus (counted r) (counts-one o is-known))
counted (hears-not {h} {t} o r l) = rw (keeps-hearing t o l) (counted r)
counted (takes {h} {g} {t} {s} r q l) = rw (joined t s l) (counts-plus (counted r) (counted q))
counted (takes-not {h} {t} s r l) = rw (keeps-taking t s l) (counted r)

-- under a number that read doesn't give no outcome is counted

none-under : (o : Received) (n : ℕ) → known o ≡ true → read_gives n ≡ false → refused_of o n ≡ 0
none-under (Ok a) n e z = refl
none-under (Err r) n e z = ap as_bit (ne_eqb r.number n (λ q. true≢false (sym e ∙ ap read_gives q ∙ z)))

never-under : {h : History} {t : Tally} → Ran h t → (n : ℕ) → read_gives n ≡ false → refusals (outcomes h) n ≡ 0
unfolding outcomes hear_of
never-under (clears old e) n z = none_in n
never-under (hears {h} {t} o r l) n z =
    let is-known = (passed (known o) 16 _ l).0 in
    omega (arith, refusals-append (outcomes h) (o ∷ []) n, never-under r n z, refusals-one o n, none-under o n is-known z)
never-under (hears-not o r l) n z = never-under r n z
never-under (takes {h} {g} r q l) n z = omega (arith, refusals-append (outcomes h) (outcomes g) n, never-under r n z, never-under q n z)
never-under (takes-not s r l) n z = never-under r n z

pub unused : {h : History} {t : Tally} → Ran h t → (n : ℕ) → n < 13 → read_gives n ≡ false → get_or t.refused n 0 ≡ 0
unused {h} r n l z = rw ((counted r).refused, get_or-tab 13 (refusals (outcomes h)) n 0 l) (never-under r n z)
