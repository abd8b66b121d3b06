-- Document 02, Ask 3: the line that says which symbols of a frame were hurt, and how often.
-- Assumes nothing.
use Rattle.std.specs.Prelude.{Bool, cond, List, [], ◌∷◌, ◌++◌, ℕ, ◌+◌, eqb, take, Ok, Err}
use Rattle.bits.specs.Tab.{blank}
use Rattle.capture.specs.Capture.{Capture, bad, frame, capture_of}
use Rattle.line.specs.Line.{decimal, field, line_of}
use Rattle.lora.specs.Read.{read_of, hurts_after}
use Rattle.lora.specs.Received.{Received}
use Rattle.lora.specs.declared.Expected.{Expected}
use Rattle.refusal.specs.Refusal.{refuse}

-- a symbol's index and its count, a colon between them; nothing where the count is 0
unfoldable pub entry : ℕ → ℕ → List ℕ
entry t c = cond (eqb c 0) [] (field t ++ (58 ∷ decimal c))

-- the entries of a list of counts, whose first is that of symbol t
unfoldable pub entries_from : ℕ → List ℕ → List ℕ
entries_from t [] = []
entries_from t (c ∷ counts) = entry t c ++ entries_from (t + 1) counts

-- ok and the entries, ascending; byte 10 at the end
unfoldable pub ok_line : List ℕ → List ℕ
ok_line counts = (111 ∷ 107 ∷ []) ++ (entries_from 0 counts ++ (10 ∷ []))

-- a refusal has the line that the reading program prints
abbrev pub hurt_line : Received → List ℕ → List ℕ
hurt_line (Ok a) counts = ok_line counts
hurt_line (Err e) counts = line_of (Err e) []

-- the counts of the frame's own symbols, in the cells that were read into
abbrev pub hurts_in : Received → List ℕ → List ℕ
hurts_in (Ok a) cells = take a.symbols cells
hurts_in (Err e) cells = []

-- the line for what read answers, into 255 cells and 832 counts
abbrev pub line_for : ℕ → Bool → Expected → List ℕ → Received → List ℕ
line_for sf low expected symbols r = hurt_line r (hurts_in r (hurts_after r sf low expected symbols (blank 832 0)))

-- the line that answers a capture; any that can't be taken is refusal 14
abbrev pub answer_to : Capture → List ℕ
answer_to bad = hurt_line (refuse 14 0) []
answer_to (frame sf low expected symbols) = line_for sf low expected symbols (read_of sf low expected symbols 255 832)

unfoldable pub answer_of : List ℕ → List ℕ
answer_of bytes = answer_to (capture_of bytes)
