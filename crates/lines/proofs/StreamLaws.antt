-- Laws of an input that is taken in chunks.
-- Assumes nothing.
use mathlib.Core.Path.{◌≡◌, refl, sym, ap, ◌∙◌}
use mathlib.Core.Bool.{Bool, true, false, cond, false≢true}
use mathlib.Core.List.{List, [], ◌∷◌, ◌++◌, append_assoc, append-nil}
use Prim.Native.Nat.{ℕ, ◌+◌, ◌<◌, ◌≤◌}
use native.Mathlib.Omega.{arith}
use borrow.Author.Tests.{ne_eqb}
use borrow.Rule.Slice.PartMut.{mid_len}
use lib.ListN.{length}
use Rattle.put.specs.Put.{Put}
use Rattle.put.proofs.Puts.{put-none, put_on}
use Rattle.capture.specs.Scan as capture
use Rattle.wish.specs.Scan as wish
use Rattle.capture.proofs.ScanLaws as capture-laws
use Rattle.wish.proofs.ScanLaws as wish-laws
use Rattle.panel.specs.Counts.{counted}
use Rattle.panel.specs.Panel.{panel_of}
use Rattle.panel.specs.declared.Counts.{Counts}
use Rattle.lines.specs.Lines.{Job, frames, wishes, hurts, tallies, end_of}
use Rattle.lines.specs.Stream.{start_of, job_of, run_at, line_at, outcome_at, next, fed, step, run, said, ended, last_line, last_said, is_tally, part, Clear, Ends, Went}
use Rattle.lines.specs.declared.Progress.{Progress}
use Rattle.lines.specs.declared.Piece.{Piece}
use Rattle.lines.specs.declared.Piece.TheVariants.{Frame, Wish, Hurt, Tally}
use Rattle.lines.proofs.Parts.{part-more, part_none, part-on}

-- the open piece: no byte, and bytes in two parts
pub run_at-none : (a : Piece) → run_at a [] ≡ a
unfolding capture.run wish.run
run_at-none (Frame s) = refl
run_at-none (Wish s) = refl
run_at-none (Hurt s) = refl
run_at-none (Tally s) = refl

pub run_at-append : (a : Piece) (xs ys : List ℕ) → run_at (run_at a xs) ys ≡ run_at a (xs ++ ys)
run_at-append (Frame s) xs ys = ap Frame (capture-laws.run-append s xs ys)
run_at-append (Wish s) xs ys = ap Wish (wish-laws.run-append s xs ys)
run_at-append (Hurt s) xs ys = ap Hurt (capture-laws.run-append s xs ys)
run_at-append (Tally s) xs ys = ap Tally (capture-laws.run-append s xs ys)

-- bytes in two parts
pub run-append : (p : Progress) (xs ys : List ℕ) → run (run p xs) ys ≡ run p (xs ++ ys)
unfolding run
run-append p [] ys = refl
run-append p (b ∷ xs) ys = run-append (step p b) xs ys

pub said-append : (p : Progress) (xs ys : List ℕ) → said p xs ++ said (run p xs) ys ≡ said p (xs ++ ys)
unfolding said run
said-append p [] ys = refl
said-append p (b ∷ xs) ys = rw (append_assoc, said-append (step p b) xs ys)

-- a byte of the open piece
on-byte : (p : Progress) (b : ℕ) (l : List ℕ) → (b ≡ 10 → ⊥) → (run p (b ∷ l) ≡ run (fed p (b ∷ [])) l) × (said p (b ∷ l) ≡ said (fed p (b ∷ [])) l)
unfolding step run said
on-byte p b l n = rw (ne_eqb b 10 n) (refl, refl)

fed-on : (p : Progress) (b : ℕ) (l : List ℕ) → fed (fed p (b ∷ [])) l ≡ fed p (b ∷ l)
unfolding fed
fed-on p b l = rw (run_at-append p.piece (b ∷ []) l)

-- bytes without a line end go into the open piece, and nothing is said
clear-rest : (l : List ℕ) (p : Progress) → Clear l → 0 < length l → (run p l ≡ fed p l) × (said p l ≡ [])
unfolding Clear run said
clear-rest [] p c h = absurd (omega arith)
clear-rest (b ∷ []) p c h = on-byte p b [] c.0
clear-rest (b ∷ a ∷ l) p c h =
    let o = on-byte p b (a ∷ l) c.0 in
    let e = clear-rest (a ∷ l) (fed p (b ∷ [])) c.1 (omega arith) in
    (o.0 ∙ (e.0 ∙ fed-on p b (a ∷ l)), o.1 ∙ e.1)

-- and with a line end behind them: the next piece is open, and the line of this one was said
clear-piece : (l : List ℕ) (p : Progress) → Clear l → (run p (l ++ (10 ∷ [])) ≡ next (fed p l)) × (said p (l ++ (10 ∷ [])) ≡ line_at (fed p l).piece)
unfolding Clear step run said next fed
clear-piece [] p c = rw (run_at-none p.piece, append-nil (line_at p.piece)) (refl, refl)
clear-piece (b ∷ l) p c =
    let o = on-byte p b (l ++ (10 ∷ [])) c.0 in
    let e = clear-piece l (fed p (b ∷ [])) c.1 in
    (o.0 ∙ (e.0 ∙ ap next (fed-on p b l)), o.1 ∙ (e.1 ∙ ap (λ (q : Progress). line_at q.piece) (fed-on p b l)))

-- a chunk from one place on: to its end, or to a line end
pub went-rest : {p later : Progress} {chunk : List ℕ} {at end : ℕ} (used : ℕ) (out : List ℕ) → Ends chunk at end → later ≡ fed p (part chunk at end)
    → at < length chunk → length chunk ≤ end → used ≤ length out → Went p chunk at end used used later out out
went-rest {p} {chunk = chunk} {at = at} {end = end} used out e s h k u =
    let rest = clear-rest (part chunk at end) p e.clear (omega (arith, mid_len at end chunk e.within)) in
    record {
      is = rw rest.0 s;
      put = rw rest.1 (put-none used out u);
      forth = e.forth;
      within = e.within;
    }

pub went-piece : {p q later : Progress} {chunk out out' : List ℕ} {at end used used' : ℕ} → Ends chunk at end → q ≡ fed p (part chunk at end)
    → end < length chunk → later ≡ next q → Put used (line_at q.piece) out out' used' → Went p chunk at (end + 1) used used' later out out'
went-piece {p} {q} {chunk = chunk} {at = at} {end = end} e t h s w =
    let whole : part chunk at (end + 1) ≡ part chunk at end ++ (10 ∷ []) = part-more chunk at end e.forth h ∙ ap (λ (b : ℕ). part chunk at end ++ (b ∷ [])) (e.here h) in
    let piece = clear-piece (part chunk at end) p e.clear in
    record {
      is = rw (whole, piece.0, ← t) s;
      put = rw (whole, piece.1, ← t) w;
      forth = omega (arith, e.forth);
      within = omega arith;
    }

-- the end of the input, by whether the open piece has a byte
pub at-end : (p : Progress) (t : Bool) → p.begun ≡ t → (ended p ≡ cond t (next p) p) × (last_line p ≡ cond t (line_at p.piece) [])
unfolding ended last_line
at-end p t e = rw e (refl, refl)

-- what stands behind all lines: the panel of a run that only counts, and nothing of another
pub end-panel : (piece : Piece) (c : Counts) → is_tally piece ≡ true → end_of (job_of piece) c ≡ panel_of c
end-panel (Frame scan) c e = absurd (false≢true e)
end-panel (Wish scan) c e = absurd (false≢true e)
end-panel (Hurt scan) c e = absurd (false≢true e)
end-panel (Tally scan) c e = refl

pub end_none : (piece : Piece) (c : Counts) → is_tally piece ≡ false → end_of (job_of piece) c ≡ []
end_none (Frame scan) c e = refl
end_none (Wish scan) c e = refl
end_none (Hurt scan) c e = refl
end_none (Tally scan) c e = absurd (false≢true (sym e))

-- a run's job stays at the end of the input
job-start : (job : Job) → job_of (start_of job) ≡ job
job-start frames = refl
job-start wishes = refl
job-start hurts = refl
job-start tallies = refl

job-ended : (p : Progress) → job_of (ended p).piece ≡ job_of p.piece
unfolding ended next
job-ended p = by p.begun
  where
    by : (t : Bool) → job_of (cond t (record { piece = start_of (job_of p.piece); begun = false; counts = counted p.counts (outcome_at p.piece) }) p).piece ≡ job_of p.piece
    by true = job-start (job_of p.piece)
    by false = refl

-- behind the last piece's line it is put with the counts at the end
pub put_last : (p : Progress) {last : Progress} {old mid new : List ℕ} {used r : ℕ} → last ≡ ended p
    → Put 0 (last_line p) old mid used → Put used (end_of (job_of last.piece) last.counts) mid new r → Put 0 (last_said p) old new r
unfolding last_said
put_last p e h q = put_on h (rw (e, job-ended p) at q)

-- nothing taken yet
pub went-none : (p : Progress) (chunk out : List ℕ) (at used : ℕ) → at ≤ length chunk → used ≤ length out → Went p chunk at at used used p out out
unfolding run said
went-none p chunk out at used h u =
    record {
      is = rw (part_none chunk at);
      put = rw (part_none chunk at) (put-none used out u);
      forth = omega arith;
      within = h;
    }

-- one part behind another
pub went_on : {p q later : Progress} {chunk out out' out'' : List ℕ} {a b c used used' used'' : ℕ} → Went p chunk a b used used' q out out'
    → Went q chunk b c used' used'' later out' out'' → Went p chunk a c used used'' later out out''
went_on {p} {chunk = chunk} {a = a} {b = b} {c = c} v w =
    let whole = part-on chunk a b c v.forth w.forth in
    record {
      is = w.is ∙ (rw v.is (run-append p (part chunk a b) (part chunk b c) ∙ ap (run p) whole));
      put = rw (← whole, ← said-append p (part chunk a b) (part chunk b c), ← v.is) (put_on v.put w.put);
      forth = omega (arith, v.forth, w.forth);
      within = w.within;
    }
