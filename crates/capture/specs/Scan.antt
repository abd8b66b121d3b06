-- A capture taken byte by byte. Nothing here is needed to say what a capture means: that is in Capture.
-- Assumes nothing.
use Rattle.std.specs.Prelude.{Bool, true, false, not, ◌&&◌, cond, ◌⊎◌, ◌≡◌, ℕ, ◌≤◌, length, take}
use mathlib.Core.List.{List, foldl}
use Rattle.line.specs.declared.Outcome.{Outcome}
use Rattle.text.specs.Scan as text
use Rattle.text.specs.Text.{Text, frame_of}
use Rattle.capture.specs.Capture.{Capture, bad, explicit, agreed_of, is_mark, answer_to, outcome_to}

-- how far a capture was taken: whether a mark stood in front, and the text of numbers
pub record State : Type 0 where
  pub agreed : Bool
  pub text : text.State

unfoldable pub start : State
start = record { agreed = false; text = text.start }

-- nothing but separators was taken
unfoldable pub fresh : State → Bool
fresh s = not s.agreed && text.empty s.text

-- a mark is taken in front of everything; anywhere else it makes the text bad, as any byte that is no digit does
unfoldable pub step : State → ℕ → State
step s b =
    cond (is_mark b && fresh s) (record { agreed = true; text = text.start })
    (record { agreed = s.agreed; text = text.step s.text b })

unfoldable pub run : State → List ℕ → State
run s bytes = foldl step s bytes

unfoldable pub ended : State → State
ended s = record { agreed = s.agreed; text = text.ended s.text }

-- what a capture that has ended says
unfoldable pub said : State → Capture
said s = cond s.agreed (text.said bad agreed_of s.text) (explicit (text.said Text.bad frame_of s.text))

-- the capture that was taken, at its end
unfoldable pub taken : State → Capture
taken s = said (ended s)

-- what a capture that ends in this state is answered, and how
unfoldable pub line_at : State → List ℕ
line_at s = answer_to (taken s)

unfoldable pub outcome_at : State → Outcome
outcome_at s = outcome_to (taken s)

-- a piece was taken up to a place, behind which no mark is in its place: it ends there, or the front does
pub record Fronted (s : State) (piece : List ℕ) (new : State) (end : ℕ) : Type 0 where
  pub held : new ≡ run s (take end piece)
  pub within : end ≤ length piece
  pub past : (fresh new ≡ false) ⊎ (end ≡ length piece)
