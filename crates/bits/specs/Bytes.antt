-- The bytes of a number, and the number that has given bytes.
-- Assumes nothing.
use Rattle.std.specs.Prelude.{ℕ, zero, suc, ◌+◌, ◌*◌, ◌/◌, ◌%◌, eqb}
use Rattle.bits.specs.Bit.{as_bit}

-- byte k of a number, the lowest first
unfoldable pub byte_at : ℕ → ℕ → ℕ
byte_at zero n = n % 256
byte_at (suc k) n = byte_at k (n / 256)

-- the number of n bytes whose byte k is f k
unfoldable pub packed : ℕ → (ℕ → ℕ) → ℕ
packed zero f = 0
packed (suc n) f = packed n (λ k. f (suc k)) * 256 + f 0

-- one in byte b of n bytes; 0 where there is no such byte
unfoldable pub step_of : ℕ → ℕ → ℕ
step_of n b = packed n (λ k. as_bit (eqb b k))
