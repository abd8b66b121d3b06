-- In whatever chunks an input comes, its answers are those of the whole input, and so are its counts.
-- Assumes nothing.
use mathlib.Core.Path.{◌≡◌, refl, sym, ap, ◌∙◌}
use mathlib.Core.Bool.{Bool, true, false}
use mathlib.Core.List.{List, [], ◌∷◌, ◌++◌, append_assoc, append-nil, flatten}
use Prim.Native.Nat.{ℕ, suc, ◌+◌, ◌≤◌}
use native.Mathlib.Omega.{arith}
use lib.Dec.{eqb}
use lib.ListN.{length}
use Rattle.capture.proofs.CaptureLaws.{answers-capture, outcome-capture}
use Rattle.text.specs.Text.{closed}
use Rattle.wish.proofs.AnswerLaws.{answers-wish, outcome-wish}
use Rattle.hurt.proofs.AnswerLaws.{answers-hurt}
use Rattle.panel.specs.Counts.{none, largest, counted, Whole}
use Rattle.panel.proofs.CountsLaws.{whole-none, whole-more}
use Rattle.panel.specs.declared.Counts.{Counts}
use Rattle.lines.specs.Lines.{Job, frames, wishes, hurts, tallies, pieces_from, pieces, line_to, outcome_to, lines_to, counts_from, output_of, counts_of}
use Rattle.lines.specs.declared.Piece.{Piece}
use Rattle.lines.specs.declared.Piece.TheVariants.{Frame, Wish, Hurt, Tally}
use Rattle.lines.specs.declared.Progress.{Progress}
use Rattle.lines.specs.Stream.{start_of, job_of, run_at, line_at, outcome_at, begin, next, fed, step, run, said, run_in, said_in, ended, last_line, last_said}
use Rattle.lines.proofs.StreamLaws.{run_at-none, run_at-append, run-append, said-append}

-- the line and the outcome of a piece whose bytes were taken
line-is : (job : Job) (bytes : List ℕ) → line_at (run_at (start_of job) bytes) ≡ line_to job bytes
line-is frames bytes = answers-capture bytes
line-is wishes bytes = answers-wish bytes
line-is hurts bytes = answers-hurt bytes
line-is tallies bytes = refl

outcome-is : (job : Job) (bytes : List ℕ) → outcome_at (run_at (start_of job) bytes) ≡ outcome_to job bytes
outcome-is frames bytes = outcome-capture bytes
outcome-is wishes bytes = outcome-wish bytes
outcome-is hurts bytes = outcome-capture bytes
outcome-is tallies bytes = outcome-capture bytes

-- a run's job stays: with bytes of the open piece, and with the next piece
job-fed : (a : Piece) (bytes : List ℕ) → job_of (run_at a bytes) ≡ job_of a
job-fed (Frame s) bytes = refl
job-fed (Wish s) bytes = refl
job-fed (Hurt s) bytes = refl
job-fed (Tally s) bytes = refl

job-start : (job : Job) → job_of (start_of job) ≡ job
job-start frames = refl
job-start wishes = refl
job-start hurts = refl
job-start tallies = refl

job_is : (job : Job) (bytes : List ℕ) → job_of (run_at (start_of job) bytes) ≡ job
job_is job bytes = job-fed (start_of job) bytes ∙ job-start job

job-step : (p : Progress) (b : ℕ) → job_of (step p b).piece ≡ job_of p.piece
unfolding step next fed
job-step p b = by (eqb b 10) refl
  where
    by : (t : Bool) → eqb b 10 ≡ t → job_of (step p b).piece ≡ job_of p.piece
    by true e = rw e (job-start (job_of p.piece))
    by false e = rw e (job-fed p.piece (b ∷ []))

job-run : (p : Progress) (bs : List ℕ) → job_of (run p bs).piece ≡ job_of p.piece
unfolding run
job-run p [] = refl
job-run p (b ∷ bs) = job-run (step p b) bs ∙ job-step p b

-- whether a piece has a byte
unfoldable some : List ℕ → Bool
some [] = false
some (b ∷ bs) = true

some_more : (l : List ℕ) (b : ℕ) → some (l ++ (b ∷ [])) ≡ true
unfolding some
some_more [] b = refl
some_more (a ∷ l) b = refl

-- the point at which the bytes of the open piece are these
unfoldable point : Job → List ℕ → Counts → Progress
point job bytes counts = record { piece = run_at (start_of job) bytes; begun = some bytes; counts = counts }

point-next : (job : Job) (bytes : List ℕ) (c : Counts) → next (point job bytes c) ≡ point job [] (counted c (outcome_to job bytes))
unfolding next point some
point-next job bytes c = rw (job_is job bytes, outcome-is job bytes, run_at-none (start_of job))

point-fed : (job : Job) (bytes : List ℕ) (c : Counts) (b : ℕ) → fed (point job bytes c) (b ∷ []) ≡ point job (bytes ++ (b ∷ [])) c
unfolding fed point
point-fed job bytes c b = rw (run_at-append (start_of job) bytes (b ∷ []), some_more bytes b)

point-line : (job : Job) (bytes : List ℕ) (c : Counts) → line_at (point job bytes c).piece ≡ line_to job bytes
unfolding point
point-line job bytes c = line-is job bytes

-- what is said from a point on, with the last piece's line, and the counts at the end, are those of the pieces
record Answers (job : Job) (p : Progress) (c : Counts) (bs : List ℕ) (pieces : List (List ℕ)) : Type 0 where
  lines : said p bs ++ last_line (run p bs) ≡ lines_to job pieces
  counts : (ended (run p bs)).counts ≡ counts_from c job pieces

-- the last piece: none if it is empty
last-piece : (job : Job) (bytes : List ℕ) (c : Counts) → Answers job (point job bytes c) c [] (closed bytes)
unfolding said run last_line ended next point some closed lines_to counts_from
last-piece job [] c = record { lines = refl; counts = refl }
last-piece job (b ∷ l) c = record { lines = rw (line-is job (b ∷ l), append-nil (line_to job (b ∷ l))); counts = rw (outcome-is job (b ∷ l)) }

whole : (job : Job) (bs bytes : List ℕ) (c : Counts) → Answers job (point job bytes c) c bs (pieces_from bytes bs)
unfolding said run step pieces_from lines_to counts_from
whole job [] bytes c = last-piece job bytes c
whole job (b ∷ bs) bytes c = by (eqb b 10) refl (whole job bs [] (counted c (outcome_to job bytes))) (whole job bs (bytes ++ (b ∷ [])) c)
  where
    by : (t : Bool) → eqb b 10 ≡ t → Answers job (point job [] (counted c (outcome_to job bytes))) (counted c (outcome_to job bytes)) bs (pieces_from [] bs)
        → Answers job (point job (bytes ++ (b ∷ [])) c) c bs (pieces_from (bytes ++ (b ∷ [])) bs) → Answers job (point job bytes c) c (b ∷ bs) (pieces_from bytes (b ∷ bs))
    by true e after more = record { lines = rw (e, append_assoc, point-line job bytes c, point-next job bytes c, after.lines); counts = rw (e, point-next job bytes c, after.counts) }
    by false e after more = record { lines = rw (e, point-fed job bytes c b, more.lines); counts = rw (e, point-fed job bytes c b, more.counts) }

begins : (job : Job) → begin job ≡ point job [] none
unfolding begin point some
begins job = rw (run_at-none (start_of job))

answers : (job : Job) (input : List ℕ) → Answers job (begin job) none input (pieces input)
unfolding pieces
answers job input = rw (begins job) (whole job input [] none)

job-end : (job : Job) (input : List ℕ) → job_of (run (begin job) input).piece ≡ job
unfolding begin
job-end job input = job-run (begin job) input ∙ job-start job

-- with what stands behind all lines
output : (job : Job) (input : List ℕ) → said (begin job) input ++ last_said (run (begin job) input) ≡ output_of job input
unfolding last_said output_of counts_of
output job input =
    let a = answers job input in
    sym (append_assoc (said (begin job) input) (last_line (run (begin job) input)) _) ∙ rw (a.lines, job-end job input, a.counts)

-- chunks, one after the other, are their input
run-chunks : (p : Progress) (chunks : List (List ℕ)) → run_in p chunks ≡ run p (flatten chunks)
unfolding run_in flatten run
run-chunks p [] = refl
run-chunks p (chunk ∷ chunks) = run-chunks (run p chunk) chunks ∙ run-append p chunk (flatten chunks)

said-chunks : (p : Progress) (chunks : List (List ℕ)) → said_in p chunks ≡ said p (flatten chunks)
unfolding said_in flatten said
said-chunks p [] = refl
said-chunks p (chunk ∷ chunks) = ap (λ (l : List ℕ). said p chunk ++ l) (said-chunks (run p chunk) chunks) ∙ said-append p chunk (flatten chunks)

-- In whatever chunks an input comes, what is said of them from the beginning on, and at the end, is its output.
pub output-in-chunks : (job : Job) (chunks : List (List ℕ)) → said_in (begin job) chunks ++ last_said (run_in (begin job) chunks) ≡ output_of job (flatten chunks)
output-in-chunks job chunks = rw (said-chunks (begin job) chunks, run-chunks (begin job) chunks) (output job (flatten chunks))

-- And the counts at the end are its counts.
pub counts-in-chunks : (job : Job) (chunks : List (List ℕ)) → (ended (run_in (begin job) chunks)).counts ≡ counts_of job (flatten chunks)
unfolding counts_of
counts-in-chunks job chunks = rw (run-chunks (begin job) chunks) (answers job (flatten chunks)).counts

-- Each text of an input is counted once, if there are no more than 64 bits count.
whole_from : (job : Job) (c : Counts) (n : ℕ) (l : List (List ℕ)) → Whole c n → n + length l ≤ largest → Whole (counts_from c job l) (n + length l)
unfolding counts_from
whole_from job c n [] w h = let e : n + 0 ≡ n = omega arith in rw e w
whole_from job c n (piece ∷ rest) w h =
    let e : n + suc (length rest) ≡ n + 1 + length rest = omega arith in
    rw e (whole_from job (counted c (outcome_to job piece)) (n + 1) rest (whole-more c n w (omega arith) (outcome_to job piece)) (omega arith))

pub counts_whole : (job : Job) (input : List ℕ) → length (pieces input) ≤ largest → Whole (counts_of job input) (length (pieces input))
unfolding counts_of
counts_whole job input h =
    let e : 0 + length (pieces input) ≡ length (pieces input) = omega arith in
    rw (← e) (whole_from job none 0 (pieces input) whole-none (omega arith))
