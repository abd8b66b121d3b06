-- An input taken in chunks. Nothing here is needed to say what its answers are: that is in Lines.
-- Assumes nothing.
use Rattle.std.specs.Prelude.{Bool, true, false, cond, List, [], ◌∷◌, ◌++◌, ◌≡◌, ℕ, ◌-◌, ◌≤◌, ◌<◌, ◌==◌, eqb, length, take, drop, get_or, count_by}
use Rattle.put.specs.Put.{Put}
use Rattle.capture.specs.Scan as capture
use Rattle.hurt.specs.Answer as hurt
use Rattle.line.specs.declared.Outcome.{Outcome}
use Rattle.panel.specs.Counts.{none, counted}
use Rattle.panel.specs.declared.Counts.{Counts}
use Rattle.wish.specs.Scan as wish
use Rattle.lines.specs.Lines.{Job, frames, wishes, hurts, tallies, end_of}
use Rattle.lines.specs.declared.Progress.{Progress}
use Rattle.lines.specs.declared.Piece.{Piece}
use Rattle.lines.specs.declared.Piece.TheVariants.{Frame, Wish, Hurt, Tally}

abbrev pub start_of : Job → Piece
start_of frames = Frame capture.start
start_of wishes = Wish wish.start
start_of hurts = Hurt capture.start
start_of tallies = Tally capture.start

abbrev pub job_of : Piece → Job
job_of (Frame s) = frames
job_of (Wish s) = wishes
job_of (Hurt s) = hurts
job_of (Tally s) = tallies

abbrev pub run_at : Piece → List ℕ → Piece
run_at (Frame s) bytes = Frame (capture.run s bytes)
run_at (Wish s) bytes = Wish (wish.run s bytes)
run_at (Hurt s) bytes = Hurt (capture.run s bytes)
run_at (Tally s) bytes = Tally (capture.run s bytes)

abbrev pub line_at : Piece → List ℕ
line_at (Frame s) = capture.line_at s
line_at (Wish s) = wish.line_at s
line_at (Hurt s) = hurt.line_at s
line_at (Tally s) = []

abbrev pub outcome_at : Piece → Outcome
outcome_at (Frame s) = capture.outcome_at s
outcome_at (Wish s) = wish.outcome_at s
outcome_at (Hurt s) = capture.outcome_at s
outcome_at (Tally s) = capture.outcome_at s

-- where a run stands: at its beginning
unfoldable pub begin : Job → Progress
begin job = record { piece = start_of job; begun = false; counts = none }

-- the open piece is answered, and the next one is open
unfoldable pub next : Progress → Progress
next p = record { piece = start_of (job_of p.piece); begun = false; counts = counted p.counts (outcome_at p.piece) }

-- bytes of the open piece
unfoldable pub fed : Progress → List ℕ → Progress
fed p bytes = record { piece = run_at p.piece bytes; begun = true; counts = p.counts }

-- a byte: a line end, or one of the open piece
unfoldable pub step : Progress → ℕ → Progress
step p b = cond (eqb b 10) (next p) (fed p (b ∷ []))

-- the point behind so many bytes, and the lines that were answered on the way
unfoldable pub run : Progress → List ℕ → Progress
run p [] = p
run p (b ∷ bs) = run (step p b) bs

unfoldable pub said : Progress → List ℕ → List ℕ
said p [] = []
said p (b ∷ bs) = cond (eqb b 10) (line_at p.piece) [] ++ said (step p b) bs

-- the same chunk after chunk
unfoldable pub run_in : Progress → List (List ℕ) → Progress
run_in p [] = p
run_in p (chunk ∷ chunks) = run_in (run p chunk) chunks

unfoldable pub said_in : Progress → List (List ℕ) → List ℕ
said_in p [] = []
said_in p (chunk ∷ chunks) = said p chunk ++ said_in (run p chunk) chunks

-- the end of the input: a last piece that is not empty is answered too
unfoldable pub ended : Progress → Progress
ended p = cond p.begun (next p) p

unfoldable pub last_line : Progress → List ℕ
last_line p = cond p.begun (line_at p.piece) []

-- and behind its line stands what stands behind all lines
unfoldable pub last_said : Progress → List ℕ
last_said p = last_line p ++ end_of (job_of p.piece) (ended p).counts

-- whether only the panel is asked
abbrev pub is_tally : Piece → Bool
is_tally (Frame scan) = false
is_tally (Wish scan) = false
is_tally (Hurt scan) = false
is_tally (Tally scan) = true

-- the bytes from one place to another
abbrev pub part : List ℕ → ℕ → ℕ → List ℕ
part bytes from to = take (to - from) (drop from bytes)

-- no byte of it is a line end
unfoldable pub Clear : List ℕ → Type 0
Clear [] = Unit
Clear (b ∷ bs) = (b ≡ 10 → ⊥) × Clear bs

-- the first line end from a place on, or the end of the bytes
pub record Ends (bytes : List ℕ) (from to : ℕ) : Type 0 where
  pub forth : from ≤ to
  pub within : to ≤ length bytes
  pub clear : Clear (part bytes from to)
  pub here : to < length bytes → get_or bytes to 0 ≡ 10

-- how many of the first n bytes are line ends
abbrev pub line_ends : List ℕ → ℕ → ℕ
line_ends bytes n = count_by (λ b. b == 10) (take n bytes)

-- the bytes from one place to the other were taken from the point p on, and their lines put behind the place used
pub record Went (p : Progress) (bytes : List ℕ) (from to used used' : ℕ) (later : Progress) (old new : List ℕ) : Type 0 where
  pub is : later ≡ run p (part bytes from to)
  pub put : Put used (said p (part bytes from to)) old new used'
  pub forth : from ≤ to
  pub within : to ≤ length bytes
