-- A wish taken byte by byte. Nothing here is needed to say what a wish means: that is in Wish.
-- Assumes nothing.
use Rattle.std.specs.Prelude.{Bool, true, false, Option, Some, None, ◌&&◌, cond, ℕ, ◌+◌, ◌*◌, ltb, eqb, length, take, drop, get_or}
use mathlib.Core.List.{List, [], ◌∷◌, ◌++◌, foldl}
use Rattle.bits.specs.Bit.{as_bit}
use Rattle.bits.specs.Check.{check}
use Rattle.capture.specs.Scan as head
use Rattle.line.specs.declared.Outcome.{Outcome}
use Rattle.lora.specs.declared.Settings.{Settings}
use Rattle.text.specs.Text.{is_separator}
use Rattle.wish.specs.Wish.{is_hex, hex_value, Wish, bad, wish, settings_of, flags_hold, with_length, answer_to, outcome_to}
use Rattle.wish.specs.declared.Word.{Word}
use Rattle.wish.specs.declared.Word.TheVariants.{Before, Hyphen, Whole, Half, Closed, Bad}

-- how far a wish was taken: the mark and the numbers, as a capture's are taken; how far the payload's word was, and the
-- first 256 bytes that it says
pub record State : Type 0 where
  pub head : head.State
  pub word : Word
  pub payload : List ℕ

unfoldable pub start : State
start = record { head = head.start; word = Before; payload = [] }

-- a separator ends the payload's word
abbrev pub shut_word : Word → Word
shut_word Before = Before
shut_word Hyphen = Closed
shut_word Whole = Closed
shut_word (Half high) = Bad
shut_word Closed = Closed
shut_word Bad = Bad

-- the value of a hex digit; none of any other byte
abbrev pub digit_of : ℕ → Option ℕ
digit_of b = cond (is_hex b) (Some (hex_value b)) None

-- a byte's upper digit
abbrev pub opened : ℕ → Word
opened b = cond (is_hex b) (Half (hex_value b)) Bad

-- its lower digit
abbrev pub paired : ℕ → Word
paired b = cond (is_hex b) Whole Bad

-- any other byte goes on with it
abbrev pub grown_word : Word → ℕ → Word
grown_word Before b = cond (eqb b 45) Hyphen (opened b)
grown_word Hyphen b = Bad
grown_word Whole b = opened b
grown_word (Half high) b = paired b
grown_word Closed b = Bad
grown_word Bad b = Bad

unfoldable pub next_word : Word → ℕ → Word
next_word word b = cond (is_separator b) (shut_word word) (grown_word word b)

-- the payload's byte that a byte of the text is the end of, if any: an upper digit stands open, and the byte is a digit
unfoldable pub added : Word → ℕ → List ℕ
added Before b = []
added Hyphen b = []
added Whole b = []
added (Half high) b = cond (ltb high 16 && is_hex b) ((high * 16 + hex_value b) ∷ []) []
added Closed b = []
added Bad b = []

-- the numbers before the payload: four, and behind a mark the agreed length in front of them
abbrev pub front : Bool → ℕ
front agreed = as_bit agreed + 4

unfoldable pub flags_in : Bool → List ℕ → Bool
flags_in agreed numbers = flags_hold (drop (as_bit agreed) numbers)

unfoldable pub settings_in : Bool → List ℕ → Settings
settings_in agreed numbers = cond agreed (with_length (get_or numbers 0 0) (settings_of (drop 1 numbers))) (settings_of numbers)

-- those numbers, then the payload's word; of the payload 256 bytes are kept, which are too many
unfoldable pub headed : State → ℕ → State
headed s b = record { head = head.step s.head b; word = Before; payload = [] }

unfoldable pub kept : State → ℕ → State
kept s b = record { head = s.head; word = s.word; payload = take 256 (s.payload ++ added s.word b) }

unfoldable pub worded : State → ℕ → State
worded s b = record { head = s.head; word = next_word s.word b; payload = take 256 (s.payload ++ added s.word b) }

unfoldable pub step : State → ℕ → State
step s b = cond (ltb (length s.head.text.numbers) (front s.head.agreed)) (headed s b) (worded s b)

unfoldable pub run : State → List ℕ → State
run s bytes = foldl step s bytes

-- whether the payload's word is a payload where it ends here
abbrev pub complete : Word → Bool
complete Before = false
complete Hyphen = true
complete Whole = true
complete (Half high) = false
complete Closed = true
complete Bad = false

-- what the numbers and a payload say
unfoldable pub said : Bool → List ℕ → List ℕ → Wish
said agreed numbers payload = check (flags_in agreed numbers) bad (wish (settings_in agreed numbers) payload)

-- the wish that was taken, at its end
unfoldable pub taken : State → Wish
taken s =
    check (complete s.word) bad
    (check (eqb (length s.head.text.numbers) (front s.head.agreed)) bad
    (said s.head.agreed s.head.text.numbers s.payload))

-- what a text that ends in this state is answered, and how
unfoldable pub line_at : State → List ℕ
line_at s = answer_to (taken s)

unfoldable pub outcome_at : State → Outcome
outcome_at s = outcome_to (taken s)
