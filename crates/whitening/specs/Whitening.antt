-- Document 01, "Whitening".
-- Assumes nothing.
use Rattle.std.specs.Prelude.{ℕ, zero, suc, ◌+◌, ◌*◌, ◌%◌}
use Rattle.std.specs.Int.Bits.{bit_xor}
use Rattle.bits.specs.Bit.{bit}

-- the last byte doubled, mod 256, plus the parity of its bits 7, 5, 4 and 3
unfoldable pub next : ℕ → ℕ
next w = w * 2 % 256 + (bit 7 w + bit 5 w + bit 4 w + bit 3 w) % 2

-- the whitening byte at the place i: w0 is FF hex, and each next one comes from the last
unfoldable pub whitening : ℕ → ℕ
whitening zero = 255
whitening (suc i) = next (whitening i)

-- payload bytes are XORed with w0, w1, ..
abbrev pub whitened : (ℕ → ℕ) → ℕ → ℕ
whitened byte p = bit_xor (byte p) (whitening p)
