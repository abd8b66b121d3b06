-- What the code hands on of a text: the frame that it is, if it is one, and what read says of it.
-- Assumes nothing.
use Rattle.std.specs.Prelude.{List, ◌≡◌, ℕ, length, Option, Some, None}
use Rattle.refusal.specs.Refusal.{refuse}
use Rattle.lora.specs.Read.{Reading}
use Rattle.lora.specs.Received.{Received}
use Rattle.lora.specs.declared.Expected.TheVariants.{Explicit}
use Rattle.text.specs.Text.{Text, bad, frame}
use Rattle.text.specs.declared.Frame.{Frame}

abbrev pub said_by : Option Frame → Text
said_by None = bad
said_by (Some f) = frame f.sf f.low f.symbols.now

-- what read answers to a text, and leaves in the lent cells; refusal 14 leaves them as they were
abbrev pub ReadFor : Text → List ℕ → List ℕ → List ℕ → List ℕ → Received → Type 0
ReadFor bad old new hurts hurts' r = (r ≡ refuse 14 0) × (new ≡ old) × (hurts' ≡ hurts)
ReadFor (frame sf low symbols) old new hurts hurts' r = Reading sf low Explicit symbols old new hurts hurts' r

pub record Heard (t : Text) (old new hurts hurts' : List ℕ) (r : Received) : Type 0 where
  pub read : ReadFor t old new hurts hurts' r
