-- Document 02, Ask 6: what the tally's functions for C and Rust leave, and what stands in the cells after any run of them.
-- Assumes nothing.
use mathlib.Core.Path.{◌≡◌, refl, sym, ap, ◌∙◌}
use mathlib.Core.Bool.{Bool, true, false, true≢false, ◌&&◌, ◌||◌, cond}
use mathlib.Core.List.{List, [], ◌∷◌}
use Prim.Native.Nat.{ℕ, suc, ◌+◌, ◌≤◌, ◌<◌}
use native.Mathlib.Omega.{arith}
use lib.Dec.{eqb}
use lib.IntN.{pos}
use lib.ListN.{length, length-append, length-drop, get_or, drop}
use borrow.Author.Tests.{eqb-true, leb-true, le-ltb, le-leb}
use Rattle.bits.specs.Check.{check}
use Rattle.bits.specs.Tab.{tab, over}
use Rattle.bits.proofs.Tabs.{get_or-tab, get_or-over, length-tab, length-blank, tab-cong, tab-get_or}
use Rattle.bits.proofs.Truth.{both_true, cond_same}
use Rattle.lora.specs.Read.{read_of}
use Rattle.lora.specs.declared.Expected.{Expected}
use Rattle.lora.specs.declared.Expected.TheVariants.{Explicit, Agreed}
use Rattle.lora.specs.Received.{Received}
use Rattle.tally.specs.History as tally
use Rattle.tally.specs.History.{History, outcomes, Ran, Counts}
use Rattle.tally.specs.Tally.{read_gives, known, empty, one, plus, fits, join_of, clear_of, hear_of, take_in_of, Leaves}
use Rattle.tally.specs.declared.Tally.{Tally}
use Rattle.tally.proofs.HistoryLaws.{counted, unused}
use Rattle.lora_c.specs.Export.{number_of, cells_of, cells_of_accepted, front, Exported}
use Rattle.lora_c.specs.TallyExport.{cell_of, refused_at, tally_in, outcome_in, is_tally, is_outcome, TallyExported}
use Rattle.promises.specs.Refusals.{one_of}
use Rattle.promises.specs.Tallied.{Clears, Hears, TakesIn, RanIn, clears, hears, hears-not, takes, takes-not}
use Rattle.promises.proofs.Checks.{reads, Gives, read-among}
use Rattle.promises.proofs.Demand1.{KeptFrom, kept}
use Rattle.std.specs.Prelude.{Result, Ok, Err}
use Rattle.refusal.specs.Refusal.{refuse}
use Rattle.refusal.specs.declared.Refusal.{Refusal}

-- No outcome of read is refused with 16.

given : List ℕ → Bool
given [] = true
given (a ∷ others) = read_gives a && given others

among : (l : List ℕ) (n : ℕ) → given l ≡ true → one_of l n ≡ true → read_gives n ≡ true
unfolding one_of given
among [] n g e = absurd (true≢false (sym e))
among (a ∷ others) n g e = go (eqb n a) (read_gives a) refl refl g e (among others n)
  where
    go : (t s : Bool) → eqb n a ≡ t → read_gives a ≡ s → s && given others ≡ true → t || one_of others n ≡ true
        → (given others ≡ true → one_of others n ≡ true → read_gives n ≡ true) → read_gives n ≡ true
    go true true p q g e rest = ap read_gives (eqb-true n a p) ∙ q
    go false true p q g e rest = rest g e
    go t false p q g e rest = absurd (true≢false (sym g))

all-given : (expected : Expected) → given (reads expected) ≡ true
unfolding given read_gives
all-given Explicit = refl
all-given (Agreed len cr flag) = refl

pub read_known : (sf : ℕ) (low : Bool) (expected : Expected) (symbols : List ℕ) (room marks : ℕ) → known (read_of sf low expected symbols room marks) ≡ true
read_known sf low expected symbols room marks = by (read_of sf low expected symbols room marks) (read-among sf low expected symbols room marks)
  where
    by : (r : Received) → Gives (reads expected) r → known r ≡ true
    by (Ok a) g = refl
    by (Err r) g = among (reads expected) r.number (all-given expected) g

-- Hearing what lora_read returned and left is hearing what read answered.

not_none : (n : ℕ) → read_gives n ≡ true → n ≡ 0 → ⊥
unfolding read_gives
not_none n e z = true≢false (sym (rw z at e))

heard-cells : (t : Tally) (o : Received) (before : List ℕ) → known o ≡ true
    → hear_of t (outcome_in (number_of o) (front (cells_of cells_of_accepted o) before)) ≡ hear_of t o
unfolding outcome_in hear_of one front read_gives
heard-cells t (Ok a) before e = refl
heard-cells t (Err r) before e = by (eqb r.number 0) refl
  where
    by : (b : Bool) → eqb r.number 0 ≡ b → hear_of t (cond b (Ok (record { length = 0; cr = 0; checked = false; symbols = 0; repairs = get_or (front (r.place ∷ []) before) 4 0; drift = pos 0 })) (refuse r.number 0)) ≡ hear_of t (Err r)
    by false p = refl
    by true p = absurd (not_none r.number e (eqb-true r.number 0 p))

pub heard-as-read : (o : Received) {before answer : List ℕ} {number : ℕ} → known o ≡ true → 6 ≤ length before
    → Exported 6 (number_of o) (cells_of cells_of_accepted o) before answer number
    → (t : Tally) → hear_of t (outcome_in number answer) ≡ hear_of t o
heard-as-read o {before} {answer} {number} e h x t =
    let n : number ≡ number_of o = rw (le-ltb _ _ h) at x.returned in
    let a : answer ≡ front (cells_of cells_of_accepted o) before = rw (le-ltb _ _ h) at x.answers in
    rw (n, a) (heard-cells t o before e)

-- and its list is long enough

front_long : (o : Received) (before : List ℕ) → 6 ≤ length before → 6 ≤ length (front (cells_of cells_of_accepted o) before)
unfolding front
front_long (Ok a) before h = omega (arith, length-append (cells_of cells_of_accepted (Ok a)) (drop 6 before))
front_long (Err r) before h = omega (arith, h, length-append (r.place ∷ []) (drop 1 before), length-drop 1 before)

pub long-as-read : (o : Received) {before answer : List ℕ} {number : ℕ} → 6 ≤ length before
    → Exported 6 (number_of o) (cells_of cells_of_accepted o) before answer number → is_outcome number answer ≡ true
unfolding is_outcome
long-as-read o {before} {answer} {number} h x =
    let a : answer ≡ front (cells_of cells_of_accepted o) before = rw (le-ltb _ _ h) at x.answers in
    rw (a, le-leb 6 _ (front_long o before h)) (cond_same (eqb number 0) true)

-- The tally that stands in cells after it was written to them.

module _ (t : Tally) (old : List ℕ) where
  written : (i : ℕ) → i < 16 → get_or (over 16 (cell_of t) old) i 0 ≡ cell_of t i
  written i h = get_or-over 16 (cell_of t) old i 0 h

  written-refused : (n : ℕ) → n < 13 → refused_at (over 16 (cell_of t) old) n ≡ get_or t.refused n 0
  unfolding refused_at
  written-refused n h =
      let behind : 3 + n ≡ suc (suc (suc n)) = omega arith in
      written (3 + n) (omega arith) ∙ ap (cell_of t) behind

  back : length t.refused ≡ 13 → tally_in (over 16 (cell_of t) old) ≡ t
  unfolding tally_in
  back long =
      let cells = tab-cong 13 (refused_at (over 16 (cell_of t) old)) (λ n. get_or t.refused n 0) written-refused in
      let all : tab 13 (λ n. get_or t.refused n 0) ≡ t.refused = rw (← long) (tab-get_or t.refused 0) in
      rw (written 0 (omega arith), written 1 (omega arith), written 2 (omega arith), cells ∙ all)

-- what a call says: a tally of 13 cells of refusals, or a refusal under a number that is not 0
abbrev Went : Result Tally Refusal → Type 0
Went (Ok new) = length new.refused ≡ 13
Went (Err refusal) = refusal.number ≡ 0 → ⊥

went-check : (b : Bool) (number : ℕ) (next : Result Tally Refusal) → (number ≡ 0 → ⊥) → Went next → Went (check b (refuse number 0) next)
went-check true number next n w = w
went-check false number next n w = n

clear-went : (t : Tally) → Went (Ok (clear_of t))
unfolding clear_of empty
clear-went t = length-blank 13 0

join-went : (t s : Tally) → Went (join_of t s)
unfolding join_of plus
join-went t s = went-check (fits t s) 17 _ (λ e. omega arith) (length-tab 13 _)

hear-went : (t : Tally) (o : Received) → Went (hear_of t o)
unfolding hear_of
hear-went t o = went-check (known o) 16 _ (λ e. omega arith) (join-went t (one o))

take-went : (t s : Tally) → Went (take_in_of t s)
unfolding take_in_of
take-went t s = join-went t s

-- a call that returns 0 has left what it said
done-in : {enough : Bool} (said : Result Tally Refusal) (t : Tally) {old new : List ℕ} → Went said → TallyExported enough said old new 0 → Leaves said t (tally_in new) (Ok tt)
done-in {enough = true} (Ok new) t {old = old} w x = record { tally = ap tally_in x.cells ∙ back new old w; answer = refl }
done-in {enough = true} (Err refusal) t w x = absurd (w (sym x.returned))
done-in {enough = false} said t w x = absurd (let z : ◌≡◌ {A = ℕ} 0 255 = x.returned in omega arith)

-- any other has left every cell as it was
stays : {enough : Bool} (said : Result Tally Refusal) {old new : List ℕ} {r : ℕ} → TallyExported enough said old new r → (r ≡ 0 → ⊥) → new ≡ old
stays {enough = true} (Ok new) x never = absurd (never x.returned)
stays {enough = true} (Err refusal) x never = x.cells
stays {enough = false} said x never = x.cells

pub clear_stays : {old new : List ℕ} {r : ℕ} → Clears old new r → (r ≡ 0 → ⊥) → new ≡ old
clear_stays x never = stays _ x never

pub hear-stays : (number : ℕ) (answer : List ℕ) {old new : List ℕ} {r : ℕ} → Hears number answer old new r → (r ≡ 0 → ⊥) → new ≡ old
hear-stays number answer x never = stays _ x never

pub take-in-stays : (other : List ℕ) {old new : List ℕ} {r : ℕ} → TakesIn other old new r → (r ≡ 0 → ⊥) → new ≡ old
take-in-stays other x never = stays _ x never

-- whatever is returned, no cell behind the sixteenth is written
keeps : {enough : Bool} (said : Result Tally Refusal) {old new : List ℕ} {r : ℕ} → (enough ≡ true → is_tally old ≡ true) → TallyExported enough said old new r
    → KeptFrom 16 old new
keeps {enough = true} (Ok new) {old = old} long x = kept 16 (cell_of new) old (leb-true 16 _ (long refl)) x.cells
keeps {enough = true} (Err refusal) long x = record { long = ap length x.cells; cells = λ t h. rw x.cells }
keeps {enough = false} said long x = record { long = ap length x.cells; cells = λ t h. rw x.cells }

pub clear-keeps : {old new : List ℕ} {r : ℕ} → Clears old new r → KeptFrom 16 old new
clear-keeps x = keeps _ (λ e. e) x

pub hear-keeps : (number : ℕ) (answer : List ℕ) {old new : List ℕ} {r : ℕ} → Hears number answer old new r → KeptFrom 16 old new
hear-keeps number answer {old} x = keeps _ (λ e. (both_true (is_tally old) (is_outcome number answer) e).0) x

pub take-in-keeps : (other : List ℕ) {old new : List ℕ} {r : ℕ} → TakesIn other old new r → KeptFrom 16 old new
take-in-keeps other {old} x = keeps _ (λ e. (both_true (is_tally old) (is_tally other) e).0) x

-- The history theorem for the cells.

ran : {h : History} {cells : List ℕ} → RanIn h cells → Ran h (tally_in cells)
ran (clears old x) = tally.clears (tally_in old) (done-in _ (tally_in old) (clear-went (tally_in old)) x).tally
ran (hears old number answer r x) = tally.hears (outcome_in number answer) (ran r) (done-in _ (tally_in old) (hear-went (tally_in old) (outcome_in number answer)) x)
ran (hears-not old number answer r x never) = rw (hear-stays number answer x never) (ran r)
ran (takes old other r q x) = tally.takes (ran r) (ran q) (done-in _ (tally_in old) (take-went (tally_in old) (tally_in other)) x)
ran (takes-not old other r x never) = rw (take-in-stays other x never) (ran r)

pub counted-in : {h : History} {cells : List ℕ} → RanIn h cells → Counts (tally_in cells) (outcomes h)
counted-in r = counted (ran r)

-- under a number that read doesn't give nothing is counted
pub unused-in : {h : History} {cells : List ℕ} → RanIn h cells → (n : ℕ) → n < 13 → read_gives n ≡ false → refused_at cells n ≡ 0
unfolding tally_in
unused-in {cells = cells} r n l z = sym (get_or-tab 13 (refused_at cells) n 0 l) ∙ unused (ran r) n l z
