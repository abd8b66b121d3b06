-- A block read back: each bit of each codeword comes from one symbol, and comes back if that symbol does.
-- Assumes nothing.
use mathlib.Core.Path.{◌≡◌, refl, ap, ◌∙◌}
use mathlib.Core.Bool.{Bool, true, false, not, cond}
use mathlib.Core.List.{List, []}
use Prim.Native.Nat.{ℕ, ◌+◌, ◌-◌, ◌%◌, ◌^◌, ◌≤◌, ◌<◌}
use native.Mathlib.Nat.{mod-lt}
use native.Mathlib.Omega.{arith}
use lib.Dec.{eqb}
use lib.ListN.{get_or}
use borrow.Author.Tests.{eqb-true, eq-eqb, ne_eqb}
use Rattle.bits.specs.Bit.{bit, is_set, as_bit}
use Rattle.bits.specs.Search.{how_many}
use Rattle.bits.proofs.Bits.{bit-lt, bit-number, number_lt, number-cong, as_bit-is_set}
use Rattle.bits.proofs.Searches.{first-is, how_many-mono}
use Rattle.bits.proofs.Tabs.{get_or-over}
use Rattle.bits.proofs.Turns.{turn, turn-back}
use Rattle.block.specs.Gray.{word_of_value, value_of_number}
use Rattle.block.specs.Block.{word_of_codewords, symbol_of_codewords, place_in_word, word_of_number, received}
use Rattle.block.specs.Grid.{row, grid, cell, word_of_grid, grid_of_words, codeword_of_grid}
use Rattle.block.proofs.GrayLaws.{word-of-value-of-word, value-lt, value-of-number-of-value, number-of-value-lt}

-- a symbol word has n bits
pub word-of-codewords-lt : (n : ℕ) (c : ℕ → ℕ) (j : ℕ) → word_of_codewords n c j < 2 ^ n
unfolding word_of_codewords
word-of-codewords-lt n c j = number_lt n _ (λ k. bit-lt _ _)

-- a symbol has n bits, at the four-wide spacing two more
pub symbol-lt : (n : ℕ) (wide : Bool) (c : ℕ → ℕ) (j : ℕ) → symbol_of_codewords n wide c j < 2 ^ cond wide (n + 2) n
unfolding symbol_of_codewords
symbol-lt n wide c j = number-of-value-lt n wide _ (value-lt n (word_of_codewords n c j))

-- the place of row i in symbol word j, by arithmetic
pub place_is : (n i j : ℕ) → i < n → place_in_word n i j ≡ (i + n - j % n) % n
unfolding place_in_word
place_is n i j h = first-is _ n 0 place (omega arith) (omega (arith, place_in)) (eq-eqb _ _ (turn n i j h)) (λ k l below. ne_eqb _ _ (other k below))
  where
    place : ℕ
    place = (i + n - j % n) % n

    place_in : place < n
    place_in = mod-lt (i + n - j % n) (omega arith)

    other : (k : ℕ) → k < place → (j + k) % n ≡ i → ⊥
    other k below e =
        let same : place ≡ k = rw e at (turn-back n j k (omega (arith, place_in))) in
        omega arith

-- it leads back to row i
pub place-turn : (n i j : ℕ) → i < n → (j + place_in_word n i j) % n ≡ i
place-turn n i j h = rw (place_is n i j h) (turn n i j h)

-- and is one of the word's n bits
pub place-lt : (n i j : ℕ) → i < n → place_in_word n i j < n
place-lt n i j h = rw (place_is n i j h) (mod-lt (i + n - j % n) (omega arith))

-- what is read from a symbol that came through is the word it was made of
read-symbol : (n : ℕ) (wide : Bool) (c : ℕ → ℕ) (j : ℕ) → word_of_number n wide (symbol_of_codewords n wide c j) ≡ word_of_codewords n c j
unfolding word_of_number symbol_of_codewords
read-symbol n wide c j =
    rw (value-of-number-of-value n wide _ (value-lt n (word_of_codewords n c j))) (word-of-value-of-word n (word_of_codewords n c j) (word-of-codewords-lt n c j))

-- bit j of codeword i, where it stands in symbol word j
pub word-bit : (n : ℕ) (c : ℕ → ℕ) (i j : ℕ) → i < n → bit (place_in_word n i j) (word_of_codewords n c j) ≡ bit j (c i)
unfolding word_of_codewords
word-bit n c i j h = bit-number n _ (λ k. bit-lt _ _) (place_in_word n i j) (place-lt n i j h) ∙ ap (λ (x : ℕ). bit j (c x)) (place-turn n i j h)

-- bit j of a received codeword comes from symbol j alone
pub bit-received : (n columns : ℕ) (wide : Bool) (s : ℕ → ℕ) (i j : ℕ) → j < columns
    → bit j (received n columns wide s i) ≡ bit (place_in_word n i j) (word_of_number n wide (s j))
unfolding received
bit-received n columns wide s i j h = bit-number columns _ (λ k. bit-lt _ _) j h

-- damage is local: a symbol with the value that was sent gives its bit of every codeword
pub local : (n columns : ℕ) (wide : Bool) (c s : ℕ → ℕ) (i j : ℕ) → i < n → j < columns
    → value_of_number n wide (s j) ≡ value_of_number n wide (symbol_of_codewords n wide c j) → bit j (received n columns wide s i) ≡ bit j (c i)
unfolding word_of_number
local n columns wide c s i j hi hj e =
    let word : word_of_number n wide (s j) ≡ word_of_codewords n c j = ap word_of_value e ∙ read-symbol n wide c j in
    bit-received n columns wide s i j hj ∙ rw word (word-bit n c i j hi)

-- a received codeword has as many bits as there are columns
pub received-lt : (n columns : ℕ) (wide : Bool) (s : ℕ → ℕ) (i : ℕ) → received n columns wide s i < 2 ^ columns
unfolding received
received-lt n columns wide s i = number_lt columns _ (λ k. bit-lt _ _)

-- the grid's cells are the bits it was made of
pub cell-grid : (n columns : ℕ) (b : ℕ → ℕ → Bool) (i j : ℕ) → i < n → j < columns → cell (grid n columns b) i j ≡ b i j
unfolding cell grid row
cell-grid n columns b i j hi hj =
    ap (λ (r : List Bool). get_or r j false) (get_or-over n (λ i. row columns (b i)) _ i [] hi) ∙ get_or-over columns (b i) _ j false hj

-- symbol word j, by way of the grid
pub word-through-grid : (n columns : ℕ) (c : ℕ → ℕ) (j : ℕ) → j < columns
    → word_of_grid n (grid n columns (λ i k. is_set (bit k (c i)))) j ≡ word_of_codewords n c j
unfolding word_of_grid word_of_codewords
word-through-grid n columns c j hj =
    number-cong n _ _ (λ k h. ap as_bit (cell-grid n columns _ ((j + k) % n) j (mod-lt (j + k) (omega arith)) hj) ∙ as_bit-is_set _ (bit-lt j _))

-- codeword i, by way of the grid, from the words that the symbols are read as
pub codeword-through-grid : (n columns : ℕ) (wide : Bool) (s : ℕ → ℕ) (ws : List ℕ) (i : ℕ) → columns ≤ 8 → i < n
    → ((j : ℕ) → j < columns → get_or ws j 0 ≡ word_of_number n wide (s j)) → codeword_of_grid columns (grid_of_words n ws) i ≡ received n columns wide s i
unfolding codeword_of_grid grid_of_words received
codeword-through-grid n columns wide s ws i most hi e =
    number-cong columns _ _ (λ j h. ap as_bit (cell-grid n 8 _ i j hi (omega arith)) ∙ as_bit-is_set _ (bit-lt (place_in_word n i j) _) ∙ ap (bit (place_in_word n i j)) (e j h))

-- if equal x and y make a and b equal, then unequal a and b make x and y unequal
pub not-eqb-mono : (a b x y : ℕ) → (x ≡ y → a ≡ b) → not (eqb a b) ≡ true → not (eqb x y) ≡ true
not-eqb-mono a b x y f = go (eqb x y) refl
  where
    go : (q : Bool) → eqb x y ≡ q → not (eqb a b) ≡ true → not q ≡ true
    go false e t = refl
    go true e t = rw (eq-eqb a b (f (eqb-true x y e))) at t

-- however many symbols change their values, each codeword has at most so many wrong bits
pub wrong-bits : (n columns : ℕ) (wide : Bool) (c s : ℕ → ℕ) (i : ℕ) → i < n
    → how_many (λ j. not (eqb (bit j (received n columns wide s i)) (bit j (c i)))) columns
    ≤ how_many (λ j. not (eqb (value_of_number n wide (s j)) (value_of_number n wide (symbol_of_codewords n wide c j)))) columns
wrong-bits n columns wide c s i hi = how_many-mono _ _ columns (λ j hj. not-eqb-mono _ _ _ _ (local n columns wide c s i j hi hj))
