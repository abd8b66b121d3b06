-- A refusal instead of a result.
-- Assumes nothing.
use Rattle.std.specs.Prelude.{ℕ, Result, Err}
use Rattle.refusal.specs.declared.Refusal.{Refusal}

-- refused under this number, at this place
abbrev pub refuse : {T : Type 0} → ℕ → ℕ → Result T Refusal
refuse number place = Err (record { number = number; place = place })
