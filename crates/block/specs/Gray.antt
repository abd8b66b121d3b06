-- Document 01, "Blocks, the diagonal and the Gray step", and document 02, Ask 2: from a word to a symbol number, and back.
-- Assumes nothing.
use Rattle.std.specs.Prelude.{Bool, cond, ℕ, ◌+◌, ◌*◌, ◌/◌, ◌%◌, ◌^◌}
use Rattle.std.specs.Int.Bits.{bit_xor}
use Rattle.std.specs.Int.Count.{ones}
use Rattle.bits.specs.Bit.{number}

-- the value of a word of n bits has, at each bit, the XOR of the word's bits at that place and all above it
unfoldable pub value_of_word : ℕ → ℕ → ℕ
value_of_word n w = number n (λ k. ones (w / 2 ^ k) % 2)

-- reading undoes the XOR
unfoldable pub word_of_value : ℕ → ℕ
word_of_value v = bit_xor v (v / 2)

-- at the four-wide spacing, of a block with N = SF - 2, the symbol number is 4 x value
unfoldable pub number_of_value : Bool → ℕ → ℕ
number_of_value wide v = cond wide (4 * v) v

-- reading takes the number plus 2, divided by 4, rounded down, mod 2^(SF - 2); a value has n bits, SF - 2 at that spacing
unfoldable pub value_of_number : ℕ → Bool → ℕ → ℕ
value_of_number n wide s = cond wide ((s + 2) / 4 % 2 ^ n) s
