-- The answers about the day's file as a number that is returned and the cells of a lent array.
-- Assumes nothing.
use Rattle.std.specs.Prelude.{List, [], ◌∷◌, ℕ, Result}
use Rattle.refusal.specs.declared.Refusal.{Refusal}
use Rattle.day_write.specs.Write.{file_after}
use Rattle.day.specs.declared.Place.{Place}
use Rattle.day.specs.declared.Taken.{Taken}
use Rattle.day.specs.declared.Entry.{Entry}
use Rattle.day.specs.declared.Entry.TheVariants.{Setting, Frame, Refused, End}
use Rattle.lora_c.specs.Export.{number_of, cells_of, cells_of_number, Exported, Lent}

-- the cells written of a file that is taken
abbrev pub cells_of_taken : Taken → List ℕ
cells_of_taken t = t.settings ∷ t.frames ∷ t.refused ∷ []

-- of an entry: which kind it is, the place behind it, its fields
abbrev pub entry_cells : ℕ → Place → List ℕ → List ℕ
entry_cells kind next fields = kind ∷ next.at ∷ next.section ∷ next.left ∷ next.settings ∷ fields

abbrev pub cells_of_entry : Entry → List ℕ
cells_of_entry (Setting sf low next) = entry_cells 1 next (sf ∷ low ∷ [])
cells_of_entry (Frame setting cr flag repairs start next) = entry_cells 2 next (setting ∷ cr ∷ flag ∷ repairs ∷ start ∷ next.at ∷ [])
cells_of_entry (Refused setting number place next) = entry_cells 3 next (setting ∷ number ∷ place ∷ [])
cells_of_entry End = 0 ∷ []

-- write's answer a about a file, with the lent bytes and the array of answers before and after, and the number returned
pub record WriteExported (a : Result ℕ Refusal) (file lent out old new : List ℕ) (r : ℕ) : Type 0 where
  pub is : Exported 1 (number_of a) (cells_of cells_of_number a) old new r
  pub bytes : Lent 1 old lent (file_after a file lent) out

-- check's
pub record CheckExported (a : Result Taken Refusal) (old new : List ℕ) (r : ℕ) : Type 0 where
  pub is : Exported 3 (number_of a) (cells_of cells_of_taken a) old new r

-- the step's
pub record StepExported (a : Result Entry Refusal) (old new : List ℕ) (r : ℕ) : Type 0 where
  pub is : Exported 11 (number_of a) (cells_of cells_of_entry a) old new r
