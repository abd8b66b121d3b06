-- The bits of a number, and the number that has given bits.
-- Assumes nothing.
use Rattle.std.specs.Prelude.{Bool, true, false, ℕ, zero, suc, ◌+◌, ◌*◌, ◌/◌, ◌%◌, ◌^◌, eqb}

-- bit k of n, of value 2 ^ k: 0 or 1
unfoldable pub bit : ℕ → ℕ → ℕ
bit k n = n / 2 ^ k % 2

-- the number of n bits whose bit k is f k
unfoldable pub number : ℕ → (ℕ → ℕ) → ℕ
number zero f = 0
number (suc n) f = number n (λ k. f (suc k)) * 2 + f 0

-- a bit as a truth value, and back
abbrev pub is_set : ℕ → Bool
is_set b = eqb b 1

abbrev pub as_bit : Bool → ℕ
as_bit true = 1
as_bit false = 0
