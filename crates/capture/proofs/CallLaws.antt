-- From a capture to the call of read, and from its answer to the line.
-- Assumes nothing.
use mathlib.Core.Path.{◌≡◌, refl, sym, ◌∙◌}
use mathlib.Core.Bool.{Bool, true, false, cond}
use mathlib.Core.List.{List}
use Prim.Native.Nat.{ℕ, ◌<◌}
use native.Mathlib.Omega.{arith}
use borrow.Author.Tests.{leb-false}
use lib.Dec.{leb}
use lib.ListN.{length}
use Rattle.bits.specs.Check.{check}
use Rattle.bits.specs.Tab.{blank}
use Rattle.layout.specs.Layout.{valid_sf}
use Rattle.line.specs.Line.{line_of}
use Rattle.line.specs.declared.Outcome.TheVariants as outcome
use Rattle.lora.specs.Read.{Reading}
use Rattle.lora.specs.Received.{Received}
use Rattle.lora.specs.declared.Accepted.{Accepted}
use Rattle.lora.specs.declared.Expected.{Expected}
use Rattle.lora.specs.declared.Expected.TheVariants.{Explicit, Agreed}
use Rattle.lora.proofs.AnswerLaws.{cr-refused}
use Rattle.refusal.specs.Refusal.{refuse}
use Rattle.text.specs.Answer.{Shown, narrowed}
use Rattle.text.specs.Scan as text
use Rattle.text.specs.Text.{Text, payload_in, frame_of}
use Rattle.text.proofs.AnswerLaws.{read-shown, refused-read, narrowed-read, frame-read}
use Rattle.capture.specs.Call.{narrow_in, as_called, called, reads, ReadFor, Heard}
use Rattle.capture.specs.Capture.{Capture, bad, frame, explicit, agreed_of, answer_to, outcome_to}
use Rattle.capture.specs.Scan.{State, said}
use Rattle.capture.specs.declared.Call.{Call}

-- what a capture that has ended says: it is bad, it has a mark, it has none
explicit-reads : (t : Text) → explicit t ≡ reads Explicit t
explicit-reads Text.bad = refl
explicit-reads (Text.frame sf low symbols) = refl

module _ (s : State) where
  pub bad-said : s.text.refused ≡ true → bad ≡ as_called (said s)
  unfolding said text.said
  bad-said e = rw e (by s.agreed)
    where
      by : (a : Bool) → bad ≡ as_called (cond a bad bad)
      by true = refl
      by false = refl

  pub agreed-said : s.text.refused ≡ false → s.agreed ≡ true → as_called (agreed_of s.text.numbers) ≡ as_called (said s)
  unfolding said text.said
  agreed-said e a = rw (e, a)

  pub plain-said : s.text.refused ≡ false → s.agreed ≡ false → as_called (reads Explicit (frame_of s.text.numbers)) ≡ as_called (said s)
  unfolding said text.said
  plain-said e a = rw (e, a, explicit-reads (frame_of s.text.numbers))

-- a frame that was read with CR narrowed to a byte was read with CR: what fits no byte is refused as 255 is
narrowed-cr : (expected : Expected) {sf : ℕ} {low : Bool} {symbols old new hurts hurts' : List ℕ} {r : Received}
    → Reading sf low (narrow_in expected) symbols old new hurts hurts' r → Reading sf low expected symbols old new hurts hurts' r
narrowed-cr Explicit c = c
narrowed-cr (Agreed len cr flag) {sf} {low} {symbols} {old} {new} {hurts} {hurts'} {r} c = by (leb cr 255) refl c
  where
    large : 4 < cr → Reading sf low (Agreed len 255 flag) symbols old new hurts hurts' r → Reading sf low (Agreed len cr flag) symbols old new hurts hurts' r
    large h d = go (valid_sf sf) refl
      where
        alike : (number : ℕ) → check (valid_sf sf) (refuse 1 0) (refuse 2 0) ≡ refuse {T = Accepted} number 0 → Reading sf low (Agreed len cr flag) symbols old new hurts hurts' r
        alike number e =
            refused-read number 0 (cr-refused sf low len 255 flag symbols (length old) (length hurts) (omega arith) ∙ e)
            (cr-refused sf low len cr flag symbols (length old) (length hurts) h ∙ e) d

        go : (t : Bool) → valid_sf sf ≡ t → Reading sf low (Agreed len cr flag) symbols old new hurts hurts' r
        go true e = alike 2 (rw e)
        go false e = alike 1 (rw e)

    by : (t : Bool) → leb cr 255 ≡ t → Reading sf low (Agreed len (cond t cr 255) flag) symbols old new hurts hurts' r → Reading sf low (Agreed len cr flag) symbols old new hurts hurts' r
    by true e d = d
    by false e d = large (omega (arith, leb-false cr 255 e)) d

-- what comes of a call
pub call-heard : (c : Capture) {sf : ℕ} {low : Bool} {expected : Expected} {symbols old new hurts hurts' : List ℕ} {r : Received}
    → frame sf low expected symbols ≡ as_called c → Reading sf low expected symbols old new hurts hurts' r → Heard c old new hurts hurts' r
call-heard bad e d = absurd (let z : ◌≡◌ {A = ℕ} 0 1 = cc e in omega arith)
call-heard (frame tf lot other signs) {sf} {low} {expected} {symbols} e d =
    let a : sf ≡ narrowed tf = cc e in
    let b : low ≡ lot = cc e in
    let g : expected ≡ narrow_in other = cc e in
    let h : symbols ≡ signs = cc e in
    record { read = narrowed-read tf a (narrowed-cr other (rw (b, g, h) at d)) }

-- what was read is what the capture is answered by: its line and its outcome
pub heard-line : {c : Capture} {payload hurts : List ℕ} {r : Received} → Heard c (blank 255 0) payload (blank 832 0) hurts r
    → Shown r × (line_of r (payload_in r payload) ≡ answer_to c) × (outcome.Heard r ≡ outcome_to c)
heard-line {c} {payload} {hurts} {r} h = by c h.read
  where
    by : (d : Capture) → ReadFor d (blank 255 0) payload (blank 832 0) hurts r → Shown r × (line_of r (payload_in r payload) ≡ answer_to d) × (outcome.Heard r ≡ outcome_to d)
    by bad e = rw e.0 (tt, refl, refl)
    by (frame sf low expected symbols) e =
        let f = frame-read e in
        (rw f.0 (read-shown sf low expected symbols), f.1, f.2)
