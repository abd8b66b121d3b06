-- The first place at which a test holds, and the number of places at which it holds.
-- Assumes nothing.
use Rattle.std.specs.Prelude.{Bool, cond, ℕ, zero, suc, ◌+◌}
use Rattle.bits.specs.Bit.{as_bit}

-- of the n places from i on the first at which p holds; where there is none, the place behind them, i + n
unfoldable pub first : (ℕ → Bool) → ℕ → ℕ → ℕ
first p zero i = i
first p (suc n) i = cond (p i) i (first p n (i + 1))

-- at how many places below n the test p holds
unfoldable pub how_many : (ℕ → Bool) → ℕ → ℕ
how_many p zero = 0
how_many p (suc n) = how_many p n + as_bit (p n)
