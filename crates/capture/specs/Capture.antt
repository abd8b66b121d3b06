-- A capture: document 01's text; or, for a frame without a header (document 02, Ask 4), a mark, the agreed values and then 01's text.
-- Assumes nothing.
use Rattle.std.specs.Prelude.{Bool, cond, List, [], ◌∷◌, map, ℕ, leb, eqb, length, get_or, drop}
use Rattle.bits.specs.Bit.{is_set}
use Rattle.bits.specs.Check.{check}
use Rattle.line.specs.Line.{line_of}
use Rattle.line.specs.declared.Outcome.{Outcome}
use Rattle.line.specs.declared.Outcome.TheVariants.{Heard}
use Rattle.lora.specs.Read.{read_of}
use Rattle.lora.specs.declared.Expected.{Expected}
use Rattle.lora.specs.declared.Expected.TheVariants.{Explicit, Agreed}
use Rattle.refusal.specs.Refusal.{refuse}
use Rattle.text.specs.Text.{Text, is_separator, words_from, all, is_number, value_of, frame_of, text_of, line_for}

-- what a capture says: SF, low rate, what a reader expects, symbols; or it can't be taken
pub data Capture : Type 0 where
  bad : Capture
  frame : ℕ → Bool → Expected → List ℕ → Capture

-- 01's text, read with a header
abbrev pub explicit : Text → Capture
explicit Text.bad = bad
explicit (Text.frame sf low symbols) = frame sf low Explicit symbols

-- and behind agreed values, without one
abbrev pub agreed_with : ℕ → ℕ → Bool → Text → Capture
agreed_with len cr flag Text.bad = bad
agreed_with len cr flag (Text.frame sf low symbols) = frame sf low (Agreed len cr flag) symbols

-- the agreed length, CR and checksum flag (0 or 1), then 01's text as it is
unfoldable pub agreed_of : List ℕ → Capture
agreed_of numbers =
    check (leb 3 (length numbers)) bad
    (check (leb (get_or numbers 2 0) 1) bad
    (agreed_with (get_or numbers 0 0) (get_or numbers 1 0) (is_set (get_or numbers 2 0)) (frame_of (drop 3 numbers))))

unfoldable pub agreed_in : List (List ℕ) → Capture
agreed_in words = check (all is_number words) bad (agreed_of (map value_of words))

-- the mark is =
abbrev pub is_mark : ℕ → Bool
is_mark b = eqb b 61

-- the first byte behind separators says which it is
unfoldable pub capture_of : List ℕ → Capture
capture_of [] = bad
capture_of (b ∷ bs) =
    cond (is_separator b) (capture_of bs)
    (cond (is_mark b) (agreed_in (words_from [] bs)) (explicit (text_of (words_from [] (b ∷ bs)))))

-- the line that answers a capture; any that can't be taken is refusal 14
abbrev pub answer_to : Capture → List ℕ
answer_to bad = line_of (refuse 14 0) []
answer_to (frame sf low expected symbols) = line_for sf low expected symbols (read_of sf low expected symbols 255 832)

unfoldable pub answer_of : List ℕ → List ℕ
answer_of bytes = answer_to (capture_of bytes)

-- what came of a capture: what read says of its frame; any that can't be taken is refusal 14
abbrev pub outcome_to : Capture → Outcome
outcome_to bad = Heard (refuse 14 0)
outcome_to (frame sf low expected symbols) = Heard (read_of sf low expected symbols 255 832)

unfoldable pub outcome_is : List ℕ → Outcome
outcome_is bytes = outcome_to (capture_of bytes)
