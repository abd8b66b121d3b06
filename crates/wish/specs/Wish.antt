-- The coding program's text: a wish for a frame, as a list of bytes, and the line that answers it.
-- Assumes nothing.
use Rattle.std.specs.Prelude.{Bool, false, ◌&&◌, ◌||◌, cond, ℕ, ◌+◌, ◌-◌, ◌*◌, ◌%◌, leb, eqb, length, get_or, take, drop, Result, Ok, Err}
use mathlib.Core.List.{List, [], ◌∷◌, ◌++◌, map, flat_map}
use Rattle.bits.specs.Bit.{is_set, as_bit}
use Rattle.bits.specs.Check.{check}
use Rattle.bits.specs.Tab.{tab}
use Rattle.capture.specs.Capture.{is_mark}
use Rattle.line.specs.Line.{decimal, field, line_of}
use Rattle.line.specs.declared.Outcome.{Outcome}
use Rattle.line.specs.declared.Outcome.TheVariants.{Made, Unmade}
use Rattle.lora.specs.Code.{sent_symbol, code_of}
use Rattle.lora.specs.Count.{cr_of, checked_of, frame_of}
use Rattle.lora.specs.declared.Kind.{Kind}
use Rattle.lora.specs.declared.Kind.TheVariants.{Explicit, Agreed}
use Rattle.lora.specs.declared.Settings.{Settings}
use Rattle.refusal.specs.Refusal.{refuse}
use Rattle.refusal.specs.declared.Refusal.{Refusal}
use Rattle.text.specs.Text.{is_separator, is_digit, all, words_from, is_number, value_of}

-- a hex digit of either case, and its value
abbrev pub is_hex : ℕ → Bool
is_hex b = is_digit b || ((leb 65 b && leb b 70) || (leb 97 b && leb b 102))

abbrev pub hex_value : ℕ → ℕ
hex_value b = cond (leb b 57) (b - 48) (cond (leb b 70) (b - 55) (b - 87))

-- two digits a byte, the upper first
unfoldable pub bytes_of : List ℕ → List ℕ
bytes_of [] = []
bytes_of (high ∷ []) = []
bytes_of (high ∷ low ∷ digits) = (hex_value high * 16 + hex_value low) ∷ bytes_of digits

-- a payload in hex: a hyphen if it is empty, else an even number of digits (no word is empty)
unfoldable pub is_hyphen : List ℕ → Bool
is_hyphen [] = false
is_hyphen (b ∷ []) = eqb b 45
is_hyphen (b ∷ c ∷ bs) = false

unfoldable pub is_payload : List ℕ → Bool
is_payload word = is_hyphen word || (all is_hex word && eqb (length word % 2) 0)

unfoldable pub payload_of : List ℕ → List ℕ
payload_of word = cond (is_hyphen word) [] (bytes_of word)

-- what a text says: settings and a payload; or it can't be taken
pub data Wish : Type 0 where
  bad : Wish
  wish : Settings → List ℕ → Wish

-- four numbers: SF, low rate (0 or 1), CR, checksum flag (0 or 1)
unfoldable pub settings_of : List ℕ → Settings
settings_of numbers = record { sf = get_or numbers 0 0; low = is_set (get_or numbers 1 0); kind = Explicit (get_or numbers 2 0) (is_set (get_or numbers 3 0)) }

unfoldable pub flags_hold : List ℕ → Bool
flags_hold numbers = leb (get_or numbers 1 0) 1 && leb (get_or numbers 3 0) 1

-- five words: the four numbers and the payload
unfoldable pub wish_of : List (List ℕ) → Wish
wish_of words =
    check (eqb (length words) 5) bad
    (check (all is_number (take 4 words)) bad
    (check (flags_hold (map value_of (take 4 words))) bad
    (check (is_payload (get_or words 4 [])) bad
    (wish (settings_of (map value_of (take 4 words))) (payload_of (get_or words 4 []))))))

-- the same settings without a header, this length being agreed
abbrev pub with_length : ℕ → Settings → Settings
with_length len s = record { sf = s.sf; low = s.low; kind = Agreed len (cr_of s.kind) (checked_of s.kind) }

abbrev pub agreed_with : ℕ → Wish → Wish
agreed_with len bad = bad
agreed_with len (wish s payload) = wish (with_length len s) payload

-- behind a mark (document 02, Ask 4): the agreed length, then a wish as it is
unfoldable pub agreed_in : List (List ℕ) → Wish
agreed_in words = check (is_number (get_or words 0 [])) bad (agreed_with (value_of (get_or words 0 [])) (wish_of (drop 1 words)))

-- the first byte behind separators says which it is
unfoldable pub wish_in : List ℕ → Wish
wish_in [] = bad
wish_in (b ∷ bs) =
    cond (is_separator b) (wish_in bs)
    (cond (is_mark b) (agreed_in (words_from [] bs)) (wish_of (words_from [] (b ∷ bs))))

-- the numbers of a list, each after a space
abbrev pub fields : List ℕ → List ℕ
fields numbers = flat_map field numbers

-- what stands in front of a frame's line: without a header the mark and the agreed length, CR and flag
abbrev pub front_of : Kind → List ℕ
front_of (Explicit cr flag) = []
front_of (Agreed len cr flag) = (61 ∷ []) ++ (field len ++ (field cr ++ (field (as_bit flag) ++ (32 ∷ []))))

-- the capture that lora_lines takes: behind that SF, low rate, symbols; byte 10 at the end
unfoldable pub frame_line : Settings → List ℕ → List ℕ
frame_line s symbols = front_of s.kind ++ (decimal s.sf ++ (field (as_bit s.low) ++ (fields symbols ++ (10 ∷ []))))

-- the line for what code answers, into a list of 832 cells; what came of it
abbrev pub line_for : Settings → List ℕ → Result ℕ Refusal → List ℕ
line_for s payload (Ok count) = frame_line s (tab count (sent_symbol (frame_of s) payload))
line_for s payload (Err refusal) = line_of (Err refusal) []

abbrev pub outcome_for : Result ℕ Refusal → Outcome
outcome_for (Ok count) = Made
outcome_for (Err refusal) = Unmade

-- any text that can't be taken is refusal 14
abbrev pub answer_to : Wish → List ℕ
answer_to bad = line_of (refuse 14 0) []
answer_to (wish s payload) = line_for s payload (code_of s payload 832)

abbrev pub outcome_to : Wish → Outcome
outcome_to bad = Unmade
outcome_to (wish s payload) = outcome_for (code_of s payload 832)

unfoldable pub answer_of : List ℕ → List ℕ
answer_of bytes = answer_to (wish_in bytes)

unfoldable pub outcome_is : List ℕ → Outcome
outcome_is bytes = outcome_to (wish_in bytes)
