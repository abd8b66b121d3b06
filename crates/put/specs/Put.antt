-- A writer's step: what it has written, and where the next one goes on.
-- Assumes nothing.
use Rattle.std.specs.Prelude.{◌≡◌, List, ℕ, ◌+◌, ◌≤◌, length}
use Rattle.bits.specs.Tab.{placed}

-- e is d with the list l from the place at on, and r is the place behind it
pub record Put {A : Type 0} (at : ℕ) (l d e : List A) (r : ℕ) : Type 0 where
  pub next : r ≡ at + length l
  pub is : e ≡ placed at l d
  pub long : length e ≡ length d
  pub within : at + length l ≤ length d
