-- From a capture to its line.
-- Assumes nothing.
use mathlib.Core.Path.{◌≡◌, refl}
use mathlib.Core.Bool.{Bool}
use mathlib.Core.List.{List}
use Prim.Native.Nat.{ℕ}
use Rattle.std.specs.Prelude.{Ok, Err}
use Rattle.bits.specs.Tab.{blank}
use Rattle.capture.specs.Call.{ReadFor, Heard}
use Rattle.capture.specs.Capture.{Capture, bad, frame}
use Rattle.capture.specs.Scan.{start, run}
use Rattle.capture.proofs.CaptureLaws.{scanned}
use Rattle.lora.specs.Read.{read_of}
use Rattle.lora.specs.Received.{Received}
use Rattle.lora.specs.declared.Expected.{Expected}
use Rattle.lora.proofs.AnswerLaws.{accepts}
use Rattle.text.proofs.AnswerLaws.{frame-read}
use Rattle.hurt.specs.Answer.{Marked, line_at}
use Rattle.hurt.specs.Hurt.{hurt_line, hurts_in, answer_to, answer_of}

-- the symbols of a frame that is answered have a cell each among the 832
read-marked : (sf : ℕ) (low : Bool) (expected : Expected) (symbols : List ℕ) → Marked (read_of sf low expected symbols 255 832)
read-marked sf low expected symbols = one (read_of sf low expected symbols 255 832) refl
  where
    one : (r : Received) → read_of sf low expected symbols 255 832 ≡ r → Marked r
    one (Ok a) e = (accepts sf low expected symbols 255 832 a e).lists
    one (Err x) e = tt

-- what was read gives the line that the capture is answered by
pub hurt-line : {c : Capture} {payload hurts : List ℕ} {r : Received} → Heard c (blank 255 0) payload (blank 832 0) hurts r
    → Marked r × (hurt_line r (hurts_in r hurts) ≡ answer_to c)
hurt-line {c} {payload} {hurts} {r} h = by c h.read
  where
    by : (d : Capture) → ReadFor d (blank 255 0) payload (blank 832 0) hurts r → Marked r × (hurt_line r (hurts_in r hurts) ≡ answer_to d)
    by bad e = rw e.0 (tt, refl)
    by (frame sf low expected symbols) e =
        let is = (frame-read e).0 in
        (rw is (read-marked sf low expected symbols), rw (e.marks, is))

-- whatever pieces a capture was taken in, its line is the one that answers the whole capture
pub answers-hurt : (bytes : List ℕ) → line_at (run start bytes) ≡ answer_of bytes
unfolding answer_of line_at
answers-hurt bytes = rw (scanned bytes)
