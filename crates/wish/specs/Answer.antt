-- What the steps of answering a wish are asked with.
-- Assumes nothing.
use Rattle.std.specs.Prelude.{Bool, List, [], ℕ, ◌≤◌, eqb, length, take, Option, Some, None, Result, Ok, Err}
use Rattle.bits.specs.Check.{check}
use Rattle.line.specs.Line.{line_of}
use Rattle.lora.specs.declared.Kind.{Kind}
use Rattle.lora.specs.declared.Kind.TheVariants.{Explicit, Agreed}
use Rattle.lora.specs.declared.Settings.{Settings}
use Rattle.refusal.specs.declared.Refusal.{Refusal}
use Rattle.text.specs.Answer.{narrowed}
use Rattle.wish.specs.Scan.{State, complete, front, flags_in, settings_in}
use Rattle.wish.specs.Wish.{frame_line}

-- the settings that the operations take
abbrev pub narrow_kind : Kind → Kind
narrow_kind (Explicit cr flag) = Explicit (narrowed cr) flag
narrow_kind (Agreed len cr flag) = Agreed len (narrowed cr) flag

unfoldable pub narrow : Settings → Settings
narrow s = record { sf = narrowed s.sf; low = s.low; kind = narrow_kind s.kind }

-- what the numbers in front of a payload say, as the operations take it: they are there, and their flags are 0 or 1
unfoldable pub settings_in_front : Bool → List ℕ → Option Settings
settings_in_front agreed numbers =
    check (eqb (length numbers) (front agreed)) None
    (check (flags_in agreed numbers) None
    (Some (narrow (settings_in agreed numbers))))

-- of a text that ends here, where the payload's word is one
unfoldable pub settings_taken : State → Option Settings
settings_taken s = check (complete s.word) None (settings_in_front s.head.agreed s.head.text.numbers)

-- the line for what was coded into these symbols
abbrev pub sent_line : Settings → Result ℕ Refusal → List ℕ → List ℕ
sent_line s (Ok count) symbols = frame_line s (take count symbols)
sent_line s (Err refusal) symbols = line_of (Err refusal) []

-- an answer whose symbols fit the list
abbrev pub Fitted : Result ℕ Refusal → Type 0
Fitted (Ok count) = count ≤ 832
Fitted (Err refusal) = Unit
