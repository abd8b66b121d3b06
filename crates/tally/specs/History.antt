-- What went into a tally since a clearing.
-- Assumes nothing.
use Rattle.std.specs.Prelude.{List, [], ◌∷◌, ◌++◌, ◌≡◌, ℕ, ◌+◌, length, Ok}
use Rattle.bits.specs.Sum.{sum}
use Rattle.bits.specs.Tab.{tab}
use Rattle.lora.specs.Received.{Received}
use Rattle.refusal.specs.Refusal.{refuse}
use Rattle.tally.specs.declared.Tally.{Tally}
use Rattle.tally.specs.Tally.{clear_of, hear_of, take_in_of, Leaves, clean_of, repaired_of, refused_of}

-- a clearing; an outcome heard after a history; another history taken in after a history
pub data History : Type 0 where
  cleared : History
  heard : History → Received → History
  took_in : History → History → History

-- the outcomes put in, those of taken-in histories included
unfoldable pub outcomes : History → List Received
outcomes cleared = []
outcomes (heard h o) = outcomes h ++ (o ∷ [])
outcomes (took_in h g) = outcomes h ++ outcomes g

-- t is a tally after a clearing and a run of calls, and h is its history: a call that is refused leaves no trace in it
pub data Ran : History → Tally → Type 0 where
  clears : (old : Tally) {new : Tally} → new ≡ clear_of old → Ran cleared new
  hears : {h : History} {t new : Tally} (o : Received) → Ran h t → Leaves (hear_of t o) t new (Ok tt) → Ran (heard h o) new
  hears-not : {h : History} {t new : Tally} (o : Received) {number place : ℕ} → Ran h t → Leaves (hear_of t o) t new (refuse number place) → Ran h new
  takes : {h g : History} {t s new : Tally} → Ran h t → Ran g s → Leaves (take_in_of t s) t new (Ok tt) → Ran (took_in h g) new
  takes-not : {h : History} {t new : Tally} (s : Tally) {number place : ℕ} → Ran h t → Leaves (take_in_of t s) t new (refuse number place) → Ran h new

-- what the outcomes of a list add to a part: their number, since each adds 1 to its own part and 0 to every other
unfoldable pub sum_over : (Received → ℕ) → List Received → ℕ
sum_over f [] = 0
sum_over f (o ∷ l) = f o + sum_over f l

-- how many were refused under the number n
unfoldable pub refusals : List Received → ℕ → ℕ
refusals l n = sum_over (λ o. refused_of o n) l

-- the tally counts the list, and its parts add up to what was heard
pub record Counts (t : Tally) (l : List Received) : Type 0 where
  pub heard : t.heard ≡ length l
  pub clean : t.clean ≡ sum_over clean_of l
  pub repaired : t.repaired ≡ sum_over repaired_of l
  pub refused : t.refused ≡ tab 13 (refusals l)
  pub parts : t.heard ≡ t.clean + t.repaired + sum t.refused
