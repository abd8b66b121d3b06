-- The sum of a list.
-- Assumes nothing.
use Rattle.std.specs.Prelude.{List, [], ◌∷◌, ℕ, ◌+◌}

unfoldable pub sum : List ℕ → ℕ
sum [] = 0
sum (a ∷ l) = a + sum l
