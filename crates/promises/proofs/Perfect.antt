-- What the crew says of 4/7.
-- Assumes nothing.
use mathlib.Core.Logic.{◌⊎◌, inl, inr}
use Prim.Native.Nat.{ℕ, ◌<◌}
use native.Mathlib.Omega.{arith}
use Rattle.codeword.specs.Ranges.{Rate}
use Rattle.codeword.proofs.CodeLaws.{same_word, one-repaired}
use Rattle.codeword.proofs.Perfect.{by-nearest}
use Rattle.promises.specs.Refusals.{IsCodeword, OneBitFromOne}

-- Each of the 128 seven-bit words is a 4/7 codeword or one bit from exactly one.
pub each_word : (w : ℕ) → w < 128 → IsCodeword 3 w ⊎ OneBitFromOne 3 w
each_word w word =
    by-nearest w word
    (λ d l e. inl (record { nibble = d; below = l; is = same_word 3 w d word e }))
    (λ d l e. inr (record { nibble = d; below = l; away = e; only = λ other m f. one-repaired 3 w other d rate word m l (omega arith) f e }))
  where
    rate : Rate 3
    rate = record { low = omega arith; high = omega arith }
