-- The call of read that a capture makes, and what comes of it.
-- Assumes nothing.
use Rattle.std.specs.Prelude.{List, ◌≡◌, ℕ, Option, Some, None}
use Rattle.lora.specs.Read.{Reading}
use Rattle.lora.specs.declared.Expected.{Expected}
use Rattle.lora.specs.declared.Expected.TheVariants.{Explicit, Agreed}
use Rattle.lora.specs.Received.{Received}
use Rattle.refusal.specs.Refusal.{refuse}
use Rattle.text.specs.Answer.{narrowed}
use Rattle.text.specs.Text.{Text}
use Rattle.capture.specs.Capture.{Capture, bad, frame}
use Rattle.capture.specs.declared.Call.{Call}

-- what a reader expects, as read takes it: an agreed CR that fits no byte becomes 255, which is none
abbrev pub narrow_in : Expected → Expected
narrow_in Explicit = Explicit
narrow_in (Agreed len cr flag) = Agreed len (narrowed cr) flag

-- SF and CR as bytes
abbrev pub as_called : Capture → Capture
as_called bad = bad
as_called (frame sf low expected symbols) = frame (narrowed sf) low (narrow_in expected) symbols

-- the call of read that a capture makes, or none
abbrev pub called : Option Call → Capture
called None = bad
called (Some call) = frame call.sf call.low call.expected call.symbols.now

-- 01's text, read as is expected
abbrev pub reads : Expected → Text → Capture
reads expected Text.bad = bad
reads expected (Text.frame sf low symbols) = frame sf low expected symbols

-- what read answers to a capture, and leaves in the lent cells; refusal 14 leaves them as they were
abbrev pub ReadFor : Capture → List ℕ → List ℕ → List ℕ → List ℕ → Received → Type 0
ReadFor bad old new hurts hurts' r = (r ≡ refuse 14 0) × (new ≡ old) × (hurts' ≡ hurts)
ReadFor (frame sf low expected symbols) old new hurts hurts' r = Reading sf low expected symbols old new hurts hurts' r

pub record Heard (c : Capture) (old new hurts hurts' : List ℕ) (r : Received) : Type 0 where
  pub read : ReadFor c old new hurts hurts' r
