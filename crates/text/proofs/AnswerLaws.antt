-- From a frame's text to its line.
-- Assumes nothing.
use mathlib.Core.Path.{◌≡◌, refl, sym, ◌∙◌}
use mathlib.Core.Bool.{Bool, true, false, cond}
use mathlib.Core.List.{List}
use Prim.Native.Nat.{ℕ}
use native.Mathlib.Omega.{arith}
use lib.Dec.{leb}
use lib.ListN.{length}
use borrow.Author.Tests.{leb-false}
use Rattle.std.specs.Prelude.{Ok, Err}
use Rattle.bits.specs.Tab.{blank}
use Rattle.bits.proofs.Tabs.{length-blank}
use Rattle.line.specs.Line.{line_of}
use Rattle.line.specs.declared.Outcome.TheVariants.{Heard}
use Rattle.lora.specs.Read.{read_of, Reading}
use Rattle.lora.specs.Received.{Received}
use Rattle.lora.specs.declared.Expected.{Expected}
use Rattle.lora.specs.declared.Expected.TheVariants.{Explicit}
use Rattle.lora.proofs.AnswerLaws.{accepts, sf-refused}
use Rattle.refusal.specs.Refusal.{refuse}
use Rattle.text.specs.Answer.{Shown, narrowed}
use Rattle.text.specs.Said as said
use Rattle.text.specs.Scan.{start, run, line_at, outcome_at}
use Rattle.text.specs.Text.{Text, bad, frame, payload_in, line_for, answer_to, outcome_to, answer_of, outcome_is}
use Rattle.text.proofs.TextLaws.{scanned}

-- a payload that is answered fits the 255 cells
pub read-shown : (sf : ℕ) (low : Bool) (expected : Expected) (symbols : List ℕ) → Shown (read_of sf low expected symbols 255 832)
read-shown sf low expected symbols = one (read_of sf low expected symbols 255 832) refl
  where
    one : (r : Received) → read_of sf low expected symbols 255 832 ≡ r → Shown r
    one (Ok a) e = (accepts sf low expected symbols 255 832 a e).fits
    one (Err x) e = tt

-- two readings that are refused alike are the same
pub refused-read : {sf tf : ℕ} {low : Bool} {expected other : Expected} {symbols old new hurts hurts' : List ℕ} {r : Received} (number place : ℕ)
    → read_of sf low expected symbols (length old) (length hurts) ≡ refuse number place → read_of tf low other symbols (length old) (length hurts) ≡ refuse number place
    → Reading sf low expected symbols old new hurts hurts' r → Reading tf low other symbols old new hurts hurts' r
refused-read {r = r} number place e f c =
    let is : r ≡ refuse number place = c.answer ∙ e in
    record {
      answer = is ∙ sym f;
      cells = (rw is at c.cells) ∙ rw is;
      marks = (rw is at c.marks) ∙ rw is;
    }

-- a frame that was read with SF narrowed to a byte was read with SF: what fits no byte is refused as 255 is
pub narrowed-read : (sf : ℕ) {n : ℕ} {low : Bool} {expected : Expected} {symbols old new hurts hurts' : List ℕ} {r : Received} → n ≡ narrowed sf
    → Reading n low expected symbols old new hurts hurts' r → Reading sf low expected symbols old new hurts hurts' r
narrowed-read sf {n} {low} {expected} {symbols} {old} {new} {hurts} {hurts'} {r} e c = by (leb sf 255) refl e
  where
    by : (t : Bool) → leb sf 255 ≡ t → n ≡ cond t sf 255 → Reading sf low expected symbols old new hurts hurts' r
    by true f g = rw g at c
    by false f g =
        refused-read 1 0 (rw g (sf-refused 255 low expected symbols (length old) (length hurts) (omega arith)))
        (sf-refused sf low expected symbols (length old) (length hurts) (omega (arith, leb-false sf 255 f))) c

-- what was read is what the frame is answered by: its line and its outcome
pub frame-read : {sf : ℕ} {low : Bool} {expected : Expected} {symbols payload hurts : List ℕ} {r : Received}
    → Reading sf low expected symbols (blank 255 0) payload (blank 832 0) hurts r → (r ≡ read_of sf low expected symbols 255 832)
    × (line_of r (payload_in r payload) ≡ line_for sf low expected symbols (read_of sf low expected symbols 255 832)) × (Heard r ≡ Heard (read_of sf low expected symbols 255 832))
frame-read {sf} {low} {expected} {symbols} {r = r} c =
    let is : r ≡ read_of sf low expected symbols 255 832 = rw (length-blank {A = ℕ} 255 0, length-blank {A = ℕ} 832 0) at c.answer in
    (is, rw (c.cells, is), rw is)

-- what was heard of a text is what it is answered by: its line and its outcome
pub heard-line : (t : Text) {payload hurts : List ℕ} {r : Received} → said.Heard t (blank 255 0) payload (blank 832 0) hurts r
    → Shown r × (line_of r (payload_in r payload) ≡ answer_to t) × (Heard r ≡ outcome_to t)
heard-line t {payload} {hurts} {r} h = by t h.read
  where
    by : (t : Text) → said.ReadFor t (blank 255 0) payload (blank 832 0) hurts r → Shown r × (line_of r (payload_in r payload) ≡ answer_to t) × (Heard r ≡ outcome_to t)
    by bad e = rw e.0 (tt, refl, refl)
    by (frame sf low symbols) e =
        let f = frame-read e in
        (rw f.0 (read-shown sf low Explicit symbols), f.1, f.2)

-- whatever pieces a text was taken in, its line is the one that answers the whole text
pub answers-text : (bytes : List ℕ) → line_at (run start bytes) ≡ answer_of bytes
unfolding answer_of line_at
answers-text bytes = rw (scanned bytes)

-- and so is its outcome
pub outcome-text : (bytes : List ℕ) → outcome_at (run start bytes) ≡ outcome_is bytes
unfolding outcome_is outcome_at
outcome-text bytes = rw (scanned bytes)
