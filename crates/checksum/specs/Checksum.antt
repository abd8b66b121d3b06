-- Document 01, "Payload checksum".
-- Assumes nothing.
use Rattle.std.specs.Prelude.{cond, List, [], ◌∷◌, ℕ, zero, suc, ◌+◌, ◌*◌, ◌^◌, ltb}
use Rattle.std.specs.Int.Bits.{bit_xor}
use Rattle.bits.specs.Bit.{bit}

-- a polynomial mod 2 is the number of its coefficients; this is x^16 + x^12 + x^5 + 1
unfoldable pub divisor : ℕ
divisor = 2 ^ 16 + 2 ^ 12 + 2 ^ 5 + 1

-- a polynomial of degree 16 at most less the divisor where that goes into it
unfoldable pub reduced : ℕ → ℕ
reduced p = cond (ltb p (2 ^ 16)) p (bit_xor p divisor)

-- the remainder of p x + b, from the remainder r of p
unfoldable pub one_bit : ℕ → ℕ → ℕ
one_bit r b = reduced (r * 2 + b)

-- the k lowest bits of a byte, top bit first
unfoldable pub low_bits : ℕ → ℕ → ℕ → ℕ
low_bits zero r byte = r
low_bits (suc k) r byte = low_bits k (one_bit r (bit k byte)) byte

unfoldable pub one_byte : ℕ → ℕ → ℕ
one_byte r byte = low_bits 8 r byte

-- the remainder after further bytes, the first of them highest
unfoldable pub remainder : ℕ → List ℕ → ℕ
remainder r [] = r
remainder r (byte ∷ bytes) = remainder (one_byte r byte) bytes

-- the remainder of the whole payload; the empty one has 0
unfoldable pub checksum : List ℕ → ℕ
checksum payload = remainder 0 payload
