-- A check before anything else.
-- Assumes nothing.
use Rattle.std.specs.Prelude.{Bool, true, false}

-- where it fails the refusal, where it holds what comes next
abbrev pub check {ℓ} : {A : Type ℓ} → Bool → A → A → A
check true refusal next = next
check false refusal next = refusal
