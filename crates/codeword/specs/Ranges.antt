-- The range that the inner steps are asked with. Nothing here is part of an offered operation's contract.
-- Assumes nothing.
use Rattle.std.specs.Prelude.{ℕ, ◌≤◌}

-- CR 1 to 4
pub record Rate (cr : ℕ) : Type 0 where
  pub low : 1 ≤ cr
  pub high : cr ≤ 4
