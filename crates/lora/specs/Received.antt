-- The answer of read: what it accepts, or a refusal.
-- Assumes nothing.
use Rattle.std.specs.Prelude.{Result}
use Rattle.refusal.specs.declared.Refusal.{Refusal}
use Rattle.lora.specs.declared.Accepted.{Accepted}

abbrev pub Received : Type 0
Received = Result Accepted Refusal
