-- Document 01, "Reading program": the text that it takes, as a list of bytes.
-- Assumes nothing.
use Rattle.std.specs.Prelude.{Bool, true, ◌&&◌, ◌||◌, cond, ℕ, ◌+◌, ◌-◌, ◌*◌, leb, eqb, length, get_or, take, drop, Ok, Err}
use mathlib.Core.List.{List, [], ◌∷◌, ◌++◌, map, foldl}
use Rattle.bits.specs.Bit.{is_set}
use Rattle.bits.specs.Check.{check}
use Rattle.bits.specs.Tab.{blank}
use Rattle.line.specs.Line.{line_of}
use Rattle.line.specs.declared.Outcome.{Outcome}
use Rattle.line.specs.declared.Outcome.TheVariants.{Heard}
use Rattle.lora.specs.Read.{read_of, bytes_after}
use Rattle.lora.specs.declared.Expected.{Expected}
use Rattle.lora.specs.declared.Expected.TheVariants.{Explicit}
use Rattle.lora.specs.Received.{Received}
use Rattle.refusal.specs.Refusal.{refuse}

-- spaces and line ends stand between numbers
abbrev pub is_separator : ℕ → Bool
is_separator b = eqb b 32 || eqb b 10

abbrev pub is_digit : ℕ → Bool
is_digit b = leb 48 b && leb b 57

-- the words of a text: a separator, or the end, closes the word that stands before it
unfoldable pub closed : List ℕ → List (List ℕ)
closed [] = []
closed (b ∷ bs) = (b ∷ bs) ∷ []

unfoldable pub words_from : List ℕ → List ℕ → List (List ℕ)
words_from word [] = closed word
words_from word (b ∷ bs) =
    cond (is_separator b) (closed word ++ words_from [] bs) (words_from (word ++ (b ∷ [])) bs)

-- a test holds of each in a list
module _ {A : Type 0} where
  unfoldable pub all : (A → Bool) → List A → Bool
  all p [] = true
  all p (a ∷ l) = p a && all p l

-- the decimal number that a word is, digit by digit
abbrev pub with_digit : ℕ → ℕ → ℕ
with_digit n b = n * 10 + (b - 48)

unfoldable pub value_of : List ℕ → ℕ
value_of word = foldl with_digit 0 word

-- a whole number 0 to 65535 of one to five digits (no word is empty)
unfoldable pub is_number : List ℕ → Bool
is_number word = all is_digit word && (leb (length word) 5 && leb (value_of word) 65535)

-- what a text says: SF, low rate and symbols; or it can't be taken
pub data Text : Type 0 where
  bad : Text
  frame : ℕ → Bool → List ℕ → Text

-- SF, low rate (0 or 1), then 0 to 832 symbols
unfoldable pub frame_of : List ℕ → Text
frame_of numbers =
    check (leb 2 (length numbers)) bad
    (check (leb (length numbers) 834) bad
    (check (leb (get_or numbers 1 0) 1) bad
    (frame (get_or numbers 0 0) (is_set (get_or numbers 1 0)) (drop 2 numbers))))

-- the whole text is judged before its meaning
unfoldable pub text_of : List (List ℕ) → Text
text_of words = check (all is_number words) bad (frame_of (map value_of words))

-- the payload of an answer, in the cells that were read into
abbrev pub payload_in : Received → List ℕ → List ℕ
payload_in (Ok a) cells = take a.length cells
payload_in (Err e) cells = []

-- the line for what read answers, into 255 cells and a list of 832
abbrev pub line_for : ℕ → Bool → Expected → List ℕ → Received → List ℕ
line_for sf low expected symbols r = line_of r (payload_in r (bytes_after r sf low expected symbols (blank 255 0)))

-- the line that answers a text, whose frame has a header; any text that can't be taken is refusal 14
abbrev pub answer_to : Text → List ℕ
answer_to bad = line_of (refuse 14 0) []
answer_to (frame sf low symbols) = line_for sf low Explicit symbols (read_of sf low Explicit symbols 255 832)

unfoldable pub answer_of : List ℕ → List ℕ
answer_of bytes = answer_to (text_of (words_from [] bytes))

-- what came of a text: what read says of its frame; any text that can't be taken is refusal 14
abbrev pub outcome_to : Text → Outcome
outcome_to bad = Heard (refuse 14 0)
outcome_to (frame sf low symbols) = Heard (read_of sf low Explicit symbols 255 832)

unfoldable pub outcome_is : List ℕ → Outcome
outcome_is bytes = outcome_to (text_of (words_from [] bytes))
