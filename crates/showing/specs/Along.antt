-- The lines of a file's entries as a walker comes upon them.
-- Assumes nothing.
use Rattle.std.specs.Prelude.{Bool, true, false, List, [], ◌++◌, Result, Ok, Err, OnOk, ◌≡◌, ℕ, zero, suc, length}
use Rattle.refusal.specs.declared.Refusal.{Refusal}
use Rattle.put.specs.Put.{Put}
use Rattle.day.specs.Script.{Judged, taken, refused}
use Rattle.day.specs.Day.{Day, kind1}
use Rattle.day.specs.Walk.{shown, payload_of, behind, begin}
use Rattle.day.specs.declared.Place.{Place}
use Rattle.day.specs.declared.Entry.{Entry}
use Rattle.day.specs.declared.Entry.TheVariants.{Setting, Frame, Refused, End}
use Rattle.show.specs.Show.{end_line, no_line, entry_line}
use Rattle.system.specs.Calls.{Printing, Sent}

-- no entry stands here: the file's end, or a refusal
abbrev pub is_over : Result Entry Refusal → Bool
is_over (Ok (Setting sf low next)) = false
is_over (Ok (Frame setting cr flag repairs start next)) = false
is_over (Ok (Refused setting number place next)) = false
is_over (Ok End) = true
is_over (Err e) = true

-- the line of the entry at a place, and the place behind it
unfoldable pub line_at : List ℕ → Place → List ℕ
line_at bytes p = entry_line (shown kind1 bytes p) (payload_of (shown kind1 bytes p) bytes)

abbrev pub onward : List ℕ → Place → Place
onward bytes p = behind (shown kind1 bytes p) p

-- of so many entries
unfoldable pub lines_along : ℕ → List ℕ → Place → List ℕ
lines_along zero bytes p = []
lines_along (suc n) bytes p = line_at bytes p ++ lines_along n bytes (onward bytes p)

unfoldable pub place_along : ℕ → List ℕ → Place → Place
place_along zero bytes p = p
place_along (suc n) bytes p = place_along n bytes (onward bytes p)

-- the lines of n entries from a place on were put at the front of a buffer, and the walk stands behind these entries
pub record Filled (bytes : List ℕ) (from to : Place) (old new : List ℕ) (used : ℕ) : Type 0 where
  pub n : ℕ
  pub put : Put 0 (lines_along n bytes from) old new used
  pub is : to ≡ place_along n bytes from

-- the same lines stand there, and a write was to hand over as many bytes as they have
pub record Passed (bytes : List ℕ) (from to : Place) (buffer : List ℕ) (sent : Sent) : Type 0 where
  pub n : ℕ
  pub printing : Printing (lines_along n bytes from) buffer sent
  pub is : to ≡ place_along n bytes from

-- all entries were passed: a walk from the start comes to the end by so many
pub record Over (bytes : List ℕ) : Type 0 where
  pub n : ℕ
  pub over : is_over (shown kind1 bytes (place_along n bytes begin)) ≡ true

-- what was shown of a file that is judged so: if all was written, a walk has come to the end, and the last line was written behind
-- it; of a file that is refused the one line alone
pub record Told (j : Judged Day) (bytes buffer : List ℕ) (sent : Sent) : Type 0 where
  pub all : (e : Day) → j ≡ taken e → OnOk sent (Over bytes × Printing (end_line (length e.frames) (length e.refused)) buffer sent)
  pub refusal : (number place : ℕ) → j ≡ refused number place → Printing (no_line number place) buffer sent
