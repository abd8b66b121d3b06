-- What the table of the checksum holds. Nothing here is part of its contract.
-- Assumes nothing.
use Rattle.std.specs.Prelude.{ℕ, ◌*◌}
use Rattle.checksum.specs.Checksum.{one_byte}

-- what a remainder's upper byte h becomes as a byte more comes in: the remainder of h x^16
unfoldable pub entry : ℕ → ℕ
entry h = one_byte (h * 256) 0
