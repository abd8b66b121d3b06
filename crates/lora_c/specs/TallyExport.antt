-- A tally as the cells of a lent array, an outcome of read as the number that it returned and the cells that it left, and what the three
-- calls make of them.
-- Assumes nothing.
use Rattle.std.specs.Prelude.{Bool, true, false, cond, List, ◌≡◌, ℕ, zero, suc, ◌+◌, eqb, leb, pos, length, get_or, Result, Ok, Err}
use Rattle.bits.specs.Check.{check}
use Rattle.bits.specs.Tab.{tab, over}
use Rattle.lora.specs.Received.{Received}
use Rattle.lora_c.specs.Export.{number_of}
use Rattle.refusal.specs.Refusal.{refuse}
use Rattle.refusal.specs.declared.Refusal.{Refusal}
use Rattle.tally.specs.declared.Tally.{Tally}

-- the 16 cells of a tally: heard, accepted clean, accepted repaired, refused under each number
abbrev pub cell_of : Tally → ℕ → ℕ
cell_of t zero = t.heard
cell_of t (suc zero) = t.clean
cell_of t (suc (suc zero)) = t.repaired
cell_of t (suc (suc (suc n))) = get_or t.refused n 0

-- the tally that stands in the first 16 cells
unfoldable pub refused_at : List ℕ → ℕ → ℕ
refused_at cells n = get_or cells (3 + n) 0

unfoldable pub tally_in : List ℕ → Tally
tally_in cells = record { heard = get_or cells 0 0; clean = get_or cells 1 0; repaired = get_or cells 2 0; refused = tab 13 (refused_at cells) }

-- the outcome of which read returned the number and left the cells, as a tally looks at it: a refusal by its number, an acceptance by its
-- repairs, which are the fifth cell
unfoldable pub outcome_in : ℕ → List ℕ → Received
outcome_in number cells =
    cond (eqb number 0) (Ok (record { length = 0; cr = 0; checked = false; symbols = 0; repairs = get_or cells 4 0; drift = pos 0 })) (refuse number 0)

-- lists that have the cells needed
abbrev pub is_tally : List ℕ → Bool
is_tally cells = leb 16 (length cells)

unfoldable pub is_outcome : ℕ → List ℕ → Bool
is_outcome number cells = cond (eqb number 0) (leb 6 (length cells)) true

-- the cells after: a refusal leaves them as they were
abbrev pub cells_after : Result Tally Refusal → List ℕ → List ℕ
cells_after (Ok t) old = over 16 (cell_of t) old
cells_after (Err refusal) old = old

-- what a call says, with the lent tally before and after, and the number returned: 255, and nothing is written, where a list is too short
pub record TallyExported (enough : Bool) (said : Result Tally Refusal) (old new : List ℕ) (r : ℕ) : Type 0 where
  pub returned : r ≡ check enough 255 (number_of said)
  pub cells : new ≡ check enough old (cells_after said old)
