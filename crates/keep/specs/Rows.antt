-- The entries in the lists.
-- Assumes nothing.
use Rattle.std.specs.Prelude.{List, [], ◌∷◌, ℕ, ◌+◌, ◌*◌, ◌≤◌}
use Rattle.bits.specs.Bit.{as_bit}
use Rattle.lora.specs.declared.Accepted.{Accepted}
use Rattle.refusal.specs.declared.Refusal.{Refusal}
use Rattle.keep.specs.declared.Rows.{Rows}

-- an entry in numbers
abbrev pub frame_numbers : ℕ → Accepted → List ℕ
frame_numbers index a = index ∷ a.cr ∷ as_bit a.checked ∷ a.repairs ∷ a.length ∷ []

abbrev pub refused_numbers : ℕ → Refusal → List ℕ
refused_numbers index e = index ∷ e.number ∷ e.place ∷ []

-- no more of each kind than the lists take: a pair of settings comes with an entry, a payload with a frame
pub record Few (rows : Rows) : Type 0 where
  pub settings : rows.settings ≤ rows.frames + rows.refused
  pub frames : rows.frames ≤ 256
  pub bytes : rows.bytes ≤ 255 * rows.frames
  pub repaired : rows.repaired ≤ rows.frames
  pub refused : rows.refused ≤ 256

-- none yet
abbrev pub no_rows : Rows
no_rows = record { settings = 0; frames = 0; bytes = 0; repaired = 0; refused = 0 }

-- no entry is lost, and of each kind there is at most one more
pub record Grown (old new : Rows) : Type 0 where
  pub kept : old.frames ≤ new.frames
  pub more : new.frames ≤ old.frames + 1
  pub refused_kept : old.refused ≤ new.refused
  pub refused_more : new.refused ≤ old.refused + 1
