-- A text taken byte by byte. Nothing here is needed to say what a text means: that is in Text.
-- Assumes nothing.
use Rattle.std.specs.Prelude.{Bool, true, false, not, ◌&&◌, cond, ℕ, ◌+◌, ◌-◌, ◌*◌, leb, ltb, eqb, length, get_or}
use mathlib.Core.List.{List, [], ◌∷◌, ◌++◌, foldl}
use Rattle.line.specs.declared.Outcome.{Outcome}
use Rattle.text.specs.Text.{is_separator, is_digit, Text, bad, frame_of, answer_to, outcome_to}

-- how far a text was taken: whether it is bad already, the digits and the value of the number that is open, and the
-- numbers before it
pub record State : Type 0 where
  pub refused : Bool
  pub digits : ℕ
  pub value : ℕ
  pub numbers : List ℕ

unfoldable pub start : State
start = record { refused = false; digits = 0; value = 0; numbers = [] }

unfoldable pub refuse : State → State
refuse s = record { refused = true; digits = s.digits; value = s.value; numbers = s.numbers }

-- the open number ends: there is place for 837
unfoldable pub shut : State → State
shut s =
    cond (eqb s.digits 0) s
    (cond (ltb (length s.numbers) 837)
    (record { refused = false; digits = 0; value = 0; numbers = s.numbers ++ (s.value ∷ []) })
    (refuse s))

-- a digit more
unfoldable pub grown : State → ℕ → State
grown s b =
    cond (ltb s.digits 5 && leb (s.value * 10 + (b - 48)) 65535)
    (record { refused = false; digits = s.digits + 1; value = s.value * 10 + (b - 48); numbers = s.numbers })
    (refuse s)

unfoldable pub step : State → ℕ → State
step s b =
    cond s.refused s
    (cond (is_separator b) (shut s)
    (cond (is_digit b) (grown s b) (refuse s)))

unfoldable pub run : State → List ℕ → State
run s bytes = foldl step s bytes

-- nothing but separators was taken
unfoldable pub empty : State → Bool
empty s = not s.refused && (eqb s.digits 0 && eqb (length s.numbers) 0)

-- the end of the text: it shuts the open number too
unfoldable pub ended : State → State
ended s = cond s.refused s (shut s)

-- what a text that has ended says, by what its numbers do; a bad one says something of its own
module _ {A : Type 0} where
  unfoldable pub said : A → (List ℕ → A) → State → A
  said refusal meaning s = cond s.refused refusal (meaning s.numbers)

-- the text that was taken, at its end
unfoldable pub taken : State → Text
taken s = said bad frame_of (ended s)

-- what a text that ends in this state is answered, and how
unfoldable pub line_at : State → List ℕ
line_at s = answer_to (taken s)

unfoldable pub outcome_at : State → Outcome
outcome_at s = outcome_to (taken s)
