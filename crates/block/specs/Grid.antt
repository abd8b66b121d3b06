-- Document 01, "A block is a grid of N rows by CR + 4 columns of bits": the grid between coding and the diagonal step.
-- An array of 12 rows of 8 bits; those outside the block are false. No promise or contract of an offered operation cites it.
-- Assumes nothing.
use Rattle.std.specs.Prelude.{Bool, false, List, [], ℕ, ◌+◌, ◌%◌, get_or}
use Rattle.bits.specs.Bit.{bit, number, is_set, as_bit}
use Rattle.bits.specs.Tab.{over, blank}
use Rattle.block.specs.Block.{place_in_word}

-- the grid with the given bits in row i and column j, and false outside
unfoldable pub row : ℕ → (ℕ → Bool) → List Bool
row columns b = over columns b (blank 8 false)

unfoldable pub grid : ℕ → ℕ → (ℕ → ℕ → Bool) → List (List Bool)
grid n columns b = over n (λ i. row columns (b i)) (blank 12 (blank 8 false))

unfoldable pub cell : List (List Bool) → ℕ → ℕ → Bool
cell g i j = get_or (get_or g i []) j false

-- grid to words: bit k of word j stands in row (j + k) mod n
unfoldable pub word_of_grid : ℕ → List (List Bool) → ℕ → ℕ
word_of_grid n g j = number n (λ k. as_bit (cell g ((j + k) % n) j))

unfoldable pub words_of_grid : ℕ → ℕ → List (List Bool) → List ℕ
words_of_grid n columns g = over columns (word_of_grid n g) (blank 8 0)

-- words to grid: the same the other way
unfoldable pub grid_of_words : ℕ → List ℕ → List (List Bool)
grid_of_words n ws = grid n 8 (λ i j. is_set (bit (place_in_word n i j) (get_or ws j 0)))

-- grid to codewords: codeword i has the bits of row i
unfoldable pub codeword_of_grid : ℕ → List (List Bool) → ℕ → ℕ
codeword_of_grid columns g i = number columns (λ j. as_bit (cell g i j))
