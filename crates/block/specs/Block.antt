-- Document 01, "Blocks, the diagonal and the Gray step": a block's codewords as its symbols, and back.
-- A block has n rows, one for each codeword.
-- Assumes nothing.
use Rattle.std.specs.Prelude.{Bool, ℕ, ◌+◌, ◌%◌, eqb}
use Rattle.bits.specs.Bit.{bit, number}
use Rattle.bits.specs.Search.{first}
use Rattle.block.specs.Gray.{value_of_word, word_of_value, number_of_value, value_of_number}

-- symbol word j of the codewords c: its bit k is bit j of codeword (j + k) mod n
unfoldable pub word_of_codewords : ℕ → (ℕ → ℕ) → ℕ → ℕ
word_of_codewords n c j = number n (λ k. bit j (c ((j + k) % n)))

-- symbol j of the codewords c
unfoldable pub symbol_of_codewords : ℕ → Bool → (ℕ → ℕ) → ℕ → ℕ
symbol_of_codewords n wide c j = number_of_value wide (value_of_word n (word_of_codewords n c j))

-- which bit of symbol word j is bit j of codeword i: the k below n with (j + k) mod n = i
unfoldable pub place_in_word : ℕ → ℕ → ℕ → ℕ
place_in_word n i j = first (λ k. eqb ((j + k) % n) i) n 0

-- the symbol word, of n bits, that a number is read as
unfoldable pub word_of_number : ℕ → Bool → ℕ → ℕ
word_of_number n wide s = word_of_value (value_of_number n wide s)

-- codeword i, of so many bits, as it is received in the symbols s: its bit j comes from symbol j alone
unfoldable pub received : ℕ → ℕ → Bool → (ℕ → ℕ) → ℕ → ℕ
received n columns wide s i = number columns (λ j. bit (place_in_word n i j) (word_of_number n wide (s j)))
