-- What came of a run's texts, counted, and the line that says so at the end of a run.
-- Assumes nothing.
use Rattle.std.specs.Prelude.{cond, List, [], ◌∷◌, ◌++◌, ◌≡◌, ℕ, ◌+◌, eqb, leb, ltb, Result, Ok, Err}
use Rattle.std.specs.Result.{result_unwrap_or}
use Rattle.bits.specs.Sum.{sum}
use Rattle.line.specs.Line.{field}
use Rattle.line.specs.declared.Outcome.{Outcome}
use Rattle.line.specs.declared.Outcome.TheVariants.{Heard, Made, Unmade}
use Rattle.tally.specs.History.{History, Ran}
use Rattle.refusal.specs.declared.Refusal.{Refusal}
use Rattle.tally.specs.Tally.{empty, hear_of}
use Rattle.tally.specs.declared.Tally.{Tally}
use Rattle.panel.specs.declared.Counts.{Counts}

-- no text yet
unfoldable pub none : Counts
none = record { texts = 0; tally = empty; made = 0; refused = 0; over = 0 }

-- the largest number of 64 bits: a count, and a sum of counts, stands there
abbrev pub largest : ℕ
largest = 18446744073709551615

abbrev pub more : ℕ → ℕ
more n = cond (ltb n largest) (n + 1) n

abbrev pub capped : ℕ → ℕ
capped n = cond (leb n largest) n largest

-- the tally's answer to an outcome: with 16 the text was refused with no reading, with anything else the tally had no room
abbrev pub refused_by : Result Tally Refusal → ℕ → ℕ
refused_by (Ok t) n = n
refused_by (Err e) n = cond (eqb e.number 16) (more n) n

abbrev pub over_by : Result Tally Refusal → ℕ → ℕ
over_by (Ok t) n = n
over_by (Err e) n = cond (eqb e.number 16) n (more n)

-- a capture's outcome, as the tally took it or refused it
unfoldable pub noting : Counts → Result Tally Refusal → Counts
noting c said =
    record { texts = more c.texts; tally = result_unwrap_or said c.tally; made = c.made; refused = refused_by said c.refused; over = over_by said c.over }

-- a text answered: what read said of a capture goes into the tally; a frame was made; a wish was refused
abbrev pub counted : Counts → Outcome → Counts
counted c (Heard received) = noting c (hear_of c.tally received)
counted c Made = record { texts = more c.texts; tally = c.tally; made = more c.made; refused = c.refused; over = c.over }
counted c Unmade = record { texts = more c.texts; tally = c.tally; made = c.made; refused = more c.refused; over = c.over }

-- end; or full, where the tally had no room for some outcome
abbrev pub end_word : ℕ → List ℕ
end_word over = cond (eqb over 0) (101 ∷ 110 ∷ 100 ∷ []) (102 ∷ 117 ∷ 108 ∷ 108 ∷ [])

-- CLEAN and REFUSED: what the tally says, and what is counted beside it
abbrev pub clean_in : Counts → ℕ
clean_in c = capped (c.tally.clean + c.made)

abbrev pub refused_in : Counts → ℕ
refused_in c = capped (sum c.tally.refused + c.refused)

-- end TEXTS CLEAN REPAIRED REFUSED; byte 10 at the end
unfoldable pub closing_line : Counts → List ℕ
closing_line c = end_word c.over ++ (field c.texts ++ (field (clean_in c) ++ (field c.tally.repaired ++ (field (refused_in c) ++ (10 ∷ [])))))

-- each of n texts is counted once: as heard, made, refused with no reading, or not counted by the tally, which has a history
pub record Whole (c : Counts) (n : ℕ) : Type 0 where
  pub texts : c.texts ≡ n
  pub parts : n ≡ c.tally.heard + c.made + c.refused + c.over
  pub history : History
  pub ran : Ran history c.tally
