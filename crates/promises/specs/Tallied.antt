-- A run of the tally's calls from C or Rust, on the cells of lent arrays.
-- Assumes nothing.
use Rattle.std.specs.Prelude.{◌&&◌, List, ◌≡◌, ℕ, Ok}
use Rattle.tally.specs.History.{History, cleared, heard, took_in}
use Rattle.tally.specs.Tally.{clear_of, hear_of, take_in_of}
use Rattle.lora_c.specs.TallyExport.{tally_in, outcome_in, is_tally, is_outcome, TallyExported}

-- what the three functions ensure, of the lent cells before and after and the number returned
abbrev pub Clears : List ℕ → List ℕ → ℕ → Type 0
Clears old new r = TallyExported (is_tally old) (Ok (clear_of (tally_in old))) old new r

abbrev pub Hears : ℕ → List ℕ → List ℕ → List ℕ → ℕ → Type 0
Hears number answer old new r =
    TallyExported (is_tally old && is_outcome number answer) (hear_of (tally_in old) (outcome_in number answer)) old new r

abbrev pub TakesIn : List ℕ → List ℕ → List ℕ → ℕ → Type 0
TakesIn other old new r = TallyExported (is_tally old && is_tally other) (take_in_of (tally_in old) (tally_in other)) old new r

-- the cells hold a tally after a clearing and a run of calls, and h is its history: a call that returns no 0 leaves no trace in it
pub data RanIn : History → List ℕ → Type 0 where
  clears : (old : List ℕ) {new : List ℕ} → Clears old new 0 → RanIn cleared new
  hears : {h : History} (old : List ℕ) {new : List ℕ} (number : ℕ) (answer : List ℕ) → RanIn h old → Hears number answer old new 0
      → RanIn (heard h (outcome_in number answer)) new
  hears-not : {h : History} (old : List ℕ) {new : List ℕ} (number : ℕ) (answer : List ℕ) {r : ℕ} → RanIn h old → Hears number answer old new r
      → (r ≡ 0 → ⊥) → RanIn h new
  takes : {h g : History} (old other : List ℕ) {new : List ℕ} → RanIn h old → RanIn g other → TakesIn other old new 0 → RanIn (took_in h g) new
  takes-not : {h : History} (old other : List ℕ) {new : List ℕ} {r : ℕ} → RanIn h old → TakesIn other old new r → (r ≡ 0 → ⊥) → RanIn h new
