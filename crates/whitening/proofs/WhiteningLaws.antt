-- Laws of the whitening bytes.
-- Assumes nothing.
use Prim.Native.Nat.{ℕ, zero, suc, ◌<◌}
use native.Mathlib.Omega.{arith}
use Rattle.whitening.specs.Whitening.{next, whitening}

-- a whitening byte is a byte
pub whitening-lt : (i : ℕ) → whitening i < 256
unfolding whitening next
whitening-lt zero = omega arith
whitening-lt (suc i) = omega arith
