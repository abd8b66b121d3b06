-- The rules by which the loops fill.
-- Assumes nothing.
use mathlib.Core.Path.{◌≡◌, refl, sym, ap, ◌∙◌}
use mathlib.Core.Bool.{Bool, false, cond}
use mathlib.Core.List.{List, []}
use Prim.Native.Nat.{ℕ, ◌+◌, ◌-◌, ◌*◌, ◌/◌, ◌%◌, ◌^◌, ◌<◌, ◌≤◌}
use native.Mathlib.Nat.{lt_of_lt_of_le}
use native.Mathlib.Omega.{arith}
use lib.Dec.{ltb}
use lib.ListN.{length, get_or}
use lib.Pow.{pow_mono}
use borrow.Author.Tests.{lt-ltb, le-ltb}
use Rattle.bits.specs.Bit.{bit, is_set}
use Rattle.bits.specs.Tab.{tab, over, over_at, blank}
use Rattle.bits.proofs.Bits.{number_lt, as_bit-lt}
use Rattle.bits.proofs.Fill.{Filled, filled_none, filled_on, filled-end}
use Rattle.bits.proofs.Tabs.{get_or-blank, get_or-tab, get_or-over, over-blank}
use Rattle.block.specs.Gray.{value_of_word, number_of_value}
use Rattle.block.specs.Grid.{row, grid, cell, word_of_grid, words_of_grid}
use Rattle.block.proofs.GrayLaws.{value-lt}
use Rattle.codeword.specs.Codeword.{codeword}
use Rattle.codeword.specs.Rows.{row_of_code}
use Rattle.layout.specs.declared.Block.{Block}
use Rattle.layout.specs.declared.Frame.{Frame}
use Rattle.layout.specs.Layout.{first_block, block_of, later_blocks, nibbles_of, symbols_of}
use Rattle.layout.specs.Ranges.{Valid, Fits}
use Rattle.layout.proofs.LayoutLaws.{nibbles-le, symbol-next, symbol_end, codeword-within, symbols-below}
use Rattle.coding.specs.Symbols.{codeword_in_block, symbol_at}
use Rattle.coding.specs.Stages.{grid_of_nibbles, symbol_of_column}
use Rattle.coding.proofs.CodingLaws.{symbol-of-block, column-is}

-- row i of the grid of n codewords of the nibbles from the first on, taken from the rows of the code from line on
unfoldable pub row_from : ℕ → ℕ → ℕ → List ℕ → ℕ → List Bool
row_from line first n nibbles i = cond (ltb i n) (row_of_code (line + get_or nibbles (first + i) 0)) (blank 8 false)

-- inside the block it is read from the table
pub row_read : {rows : List (List Bool)} {d : ℕ} (line first n : ℕ) (nibbles : List ℕ) (i : ℕ) → rows ≡ tab 64 row_of_code → i < n
    → d ≡ get_or nibbles (first + i) 0 → line + d < 64 → get_or rows (line + d) [] ≡ row_from line first n nibbles i
unfolding row_from
row_read {rows} {d} line first n nibbles i e h q small = rw (e, lt-ltb i n h, ← q) (get_or-tab 64 row_of_code (line + d) [] small)

-- outside it is blank
pub row-blank : (line first n : ℕ) (nibbles : List ℕ) (i : ℕ) → n ≤ i → i < 12 → get_or (blank 12 (blank 8 false)) i [] ≡ row_from line first n nibbles i
unfolding row_from
row-blank line first n nibbles i h l = rw (le-ltb i n h) (get_or-blank 12 i (blank 8 false) [] l)

-- the rows of a rate's codewords
row_is : (rate d : ℕ) → 1 ≤ rate → d < 16 → row_of_code (16 * (rate - 1) + d) ≡ row (4 + rate) (λ j. is_set (bit j (codeword rate d)))
unfolding row_of_code row
row_is rate d h l =
    let q : (16 * (rate - 1) + d) / 16 + 1 ≡ rate = omega arith in
    let r : (16 * (rate - 1) + d) % 16 ≡ d = omega arith in
    rw (q, r)

-- and all of them are the grid
pub grid-laid : {line first n : ℕ} {g : List (List Bool)} (B : Block) (nibbles : List ℕ) → Fits B → ((i : ℕ) → get_or nibbles i 0 < 16)
    → line ≡ 16 * (B.rate - 1) → first ≡ B.codeword → n ≡ B.rows → g ≡ over 12 (row_from line first n nibbles) (blank 12 (blank 8 false))
    → g ≡ grid_of_nibbles B (λ i. get_or nibbles i 0)
unfolding grid_of_nibbles grid row_from codeword_in_block
grid-laid B nibbles fits small el ef en e =
    rw (e, el, ef, en)
    (over-blank B.rows 12 _ _ (blank 8 false) fits.rows-high (λ i h. rw (lt-ltb i B.rows h) (row_is B.rate _ fits.rate-low (small (B.codeword + i))))
    (λ i h l. rw (le-ltb i B.rows h)))

-- a value of at most 12 rows has 12 bits
pub value-small : {v : ℕ} (rows w : ℕ) → rows ≤ 12 → v ≡ value_of_word rows w → v < 4096
value-small rows w h e = rw e (lt_of_lt_of_le (value-lt rows w) (pow_mono h))

-- the words of a grid have as many bits as there are rows
pub word_small : {words : List ℕ} (rows columns : ℕ) (g : List (List Bool)) (j : ℕ) → words ≡ words_of_grid rows columns g → j < columns
    → get_or words j 0 < 2 ^ rows
unfolding words_of_grid word_of_grid
word_small rows columns g j q h =
    rw (q, get_or-over columns (word_of_grid rows g) (blank 8 0) j 0 h) (number_lt rows _ (λ k. as_bit-lt (cell g ((j + k) % rows) j)))

-- and a symbol made of one of them is the grid's
pub symbol-made : {s v : ℕ} {words : List ℕ} (B : Block) (columns : ℕ) (g : List (List Bool)) (j : ℕ) → words ≡ words_of_grid B.rows columns g → j < columns
    → v ≡ value_of_word B.rows (get_or words j 0) → s ≡ number_of_value B.spaced v → s ≡ symbol_of_column B g j
unfolding symbol_of_column words_of_grid
symbol-made B columns g j q h v s = rw (s, v, q, get_or-over columns (word_of_grid B.rows g) (blank 8 0) j 0 h)

-- a frame with a payload of len bytes
module _ (F : Frame) (v : Valid F) (len : ℕ) where
  -- its block k begins at one of the 519 nibbles or right behind them, and has room among its symbols
  pub block-low : {B : Block} (k : ℕ) → B ≡ block_of F k → k ≤ later_blocks F (nibbles_of F len) → len ≤ 255 → B.codeword ≤ 519
  block-low k e h short = rw e (omega (arith, codeword-within F v (nibbles_of F len) k h, nibbles-le F len v short))

  pub block_room : {B : Block} (k : ℕ) → B ≡ block_of F k → k ≤ later_blocks F (nibbles_of F len) → B.symbol + (4 + B.rate) ≤ symbols_of F len
  unfolding symbols_of
  block_room k e h = rw e (omega (arith, symbols-below F v (nibbles_of F len) k h))

  -- its symbols are written block by block into d
  module _ (nibble : ℕ → ℕ) where
    pub frame-start : (d : List ℕ) → Filled (symbol_at F nibble) d (block_of F 0).symbol d
    unfolding block_of first_block
    frame-start d = filled_none _ d

    -- one block more
    pub frame-more : {B : Block} {g : List (List Bool)} {d out next : List ℕ} (k : ℕ) → k ≤ later_blocks F (nibbles_of F len) → symbols_of F len ≤ length d
        → B ≡ block_of F k → g ≡ grid_of_nibbles B nibble
        → Filled (symbol_at F nibble) d (block_of F k).symbol out → next ≡ over_at B.symbol (4 + B.rate) (symbol_of_column B g) out
        → Filled (symbol_at F nibble) d (block_of F (k + 1)).symbol next
    frame-more {B} {g} {d} {out} {next} k h room e made p q =
        let b : Block = block_of F k in
        let end : (block_of F (k + 1)).symbol ≡ b.symbol + (4 + b.rate) = omega (arith, symbol-next F k) in
        let written : next ≡ over_at b.symbol (4 + b.rate) (symbol_of_column b g) out = rw e at q in
        let laid : g ≡ grid_of_nibbles b nibble = rw e at made in
        rw end
        (filled_on p (omega (arith, block_room k refl h)) written
        (λ j l. column-is b nibble g j laid l ∙ sym (symbol-of-block F nibble k j v l)))

    -- all the blocks, and the nibbles by another name
    pub frame-end : {d out : List ℕ} {other : ℕ → ℕ} (k : ℕ) → nibble ≡ other → Filled (symbol_at F nibble) d (block_of F k).symbol out
        → k ≡ later_blocks F (nibbles_of F len) + 1 → out ≡ over (symbols_of F len) (symbol_at F other) d
    unfolding symbols_of
    frame-end k same p e = rw (← same) (filled-end p (ap (λ (b : ℕ). (block_of F b).symbol) e ∙ symbol_end F v (nibbles_of F len)))
