-- What is known of a file that was written.
-- Assumes nothing.
use Rattle.std.specs.Prelude.{Result, ℕ, ◌≤◌, IfOk}
use Rattle.refusal.specs.declared.Refusal.{Refusal}

-- a file that was written lies in its buffer
abbrev pub Room : Result ℕ Refusal → ℕ → Type 0
Room r room = IfOk r (λ bytes. bytes ≤ room)
