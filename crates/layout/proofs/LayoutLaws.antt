-- Laws of the layout: how blocks follow each other, and which codewords and symbols each has.
-- Assumes nothing.
use mathlib.Core.Path.{◌≡◌, refl, ap}
use mathlib.Core.Bool.{Bool, true, false, cond}
use Prim.Native.Nat.{ℕ, zero, suc, ◌+◌, ◌-◌, ◌*◌, ◌/◌, ◌≤◌, ◌<◌}
use native.Mathlib.Nat.{mul-le-mul, mul_comm, div-add-mod', mod-lt, div-mul-le_self, div-lt_iff_lt-mul, div-eq_of_lt, mul-le-mul_left, mul-le-mul_right}
use native.Mathlib.Numerals.{add-one}
use native.Mathlib.Omega.{arith}
use lib.Arith.{digits_div}
use lib.Dec.{ltb}
use borrow.Author.Tests.{lt-ltb, le-ltb, ltb-true, ltb-false}
use Rattle.layout.specs.declared.Block.{Block}
use Rattle.layout.specs.declared.Frame.{Frame}
use Rattle.layout.specs.Layout.{rows_of_first, rows_of_later, first_block, block_of, block_of_codeword, block_of_symbol, data_nibbles, nibbles_of, remaining, later_blocks, symbol_count, symbols_of}
use Rattle.layout.specs.Ranges.{Valid, Fits}

pub product_le : (m n : ℕ) {a b : ℕ} → a ≤ m → b ≤ n → a * b ≤ m * n
product_le m n h k = mul-le-mul h k

pub rows-range : (F : Frame) → Valid F → (5 ≤ rows_of_later F) × (rows_of_later F ≤ 12)
unfolding rows_of_later
rows-range F v = at F.low
  where
    at : (low : Bool) → (5 ≤ cond low (F.sf - 2) F.sf) × (cond low (F.sf - 2) F.sf ≤ 12)
    at true = omega arith
    at false = omega arith

pub block-later : (F : Frame) (b : ℕ) → 0 < b → block_of F b ≡ record {
  rate = F.cr;
  rows = rows_of_later F;
  spaced = F.low;
  codeword = rows_of_first F.sf + rows_of_later F * (b - 1);
  symbol = 8 + (F.cr + 4) * (b - 1);
}
unfolding block_of first_block
block-later F zero h = absurd (omega arith)
block-later F (suc b) h = let e : suc b - 1 ≡ b = omega arith in rw e

-- the last of the later blocks has at least one of the remaining nibbles, and they all have places
pub later-enough : (F : Frame) (nibbles : ℕ) → Valid F → remaining F nibbles ≤ rows_of_later F * later_blocks F nibbles
unfolding later_blocks
later-enough F nibbles v =
    let n : ℕ = rows_of_later F in
    let r : ℕ = remaining F nibbles in
    let x : ℕ = r + (n - 1) in
    let (five, twelve) = rows-range F v in
    omega (arith, div-add-mod' x n, mod-lt x {m = n} (omega arith), mul_comm n (x / n))

pub later-needed : (F : Frame) (nibbles : ℕ) → Valid F → rows_of_later F * later_blocks F nibbles ≤ remaining F nibbles + (rows_of_later F - 1)
unfolding later_blocks
later-needed F nibbles v =
    let n : ℕ = rows_of_later F in
    let x : ℕ = remaining F nibbles + (n - 1) in
    omega (arith, div-mul-le_self x n, mul_comm n (x / n))

rows_are : (F : Frame) (low : Bool) → F.low ≡ low → rows_of_later F ≡ cond low (F.sf - 2) F.sf
unfolding rows_of_later
rows_are F low e = rw e

-- a frame has at most 103 later blocks, and at most 832 symbols
pub later-le : (F : Frame) (nibbles : ℕ) → Valid F → nibbles ≤ 519 → later_blocks F nibbles ≤ 103
unfolding remaining rows_of_first
later-le F nibbles v m = at F.low refl
  where
    at : (low : Bool) → F.low ≡ low → later_blocks F nibbles ≤ 103
    at true e =
        let five : 5 ≤ rows_of_later F = omega (arith, rows_are F true e) in
        omega (arith, rows_are F true e, later-needed F nibbles v, mul-le-mul_right (later_blocks F nibbles) five)
    at false e =
        let seven : 7 ≤ rows_of_later F = omega (arith, rows_are F false e) in
        omega (arith, rows_are F false e, later-needed F nibbles v, mul-le-mul_right (later_blocks F nibbles) seven)

pub count-le : (F : Frame) (nibbles : ℕ) → Valid F → nibbles ≤ 519 → symbol_count F nibbles ≤ 832
unfolding symbol_count
count-le F nibbles v m =
    omega (arith, product_le 8 103 {a = F.cr + 4} (omega arith) (later-le F nibbles v m))

pub data-le : (len : ℕ) (flag : Bool) → len ≤ 255 → data_nibbles len flag ≤ 514
unfolding data_nibbles
data-le len true h = omega arith
data-le len false h = omega arith

-- a frame has at most 519 nibbles
pub nibbles-le : (F : Frame) (len : ℕ) → Valid F → len ≤ 255 → nibbles_of F len ≤ 519
unfolding nibbles_of
nibbles-le F len v h = omega (arith, data-le len F.checked h)

-- a frame with a payload of len bytes has 8 to 832 symbols
pub symbols-ge : (F : Frame) (len : ℕ) → 8 ≤ symbols_of F len
unfolding symbols_of symbol_count
symbols-ge F len = omega arith

pub symbols-le : (F : Frame) (len : ℕ) → Valid F → len ≤ 255 → symbols_of F len ≤ 832
unfolding symbols_of
symbols-le F len v h = count-le F (nibbles_of F len) v (nibbles-le F len v h)

-- how block b is followed by the next
module _ (F : Frame) where
  pub codeword-next : (b : ℕ) → (block_of F (b + 1)).codeword ≡ (block_of F b).codeword + (block_of F b).rows
  unfolding block_of first_block
  codeword-next zero = omega arith
  codeword-next (suc b) =
      let e : suc b + 1 ≡ suc (suc b) = omega arith in
      rw e (omega arith)

  pub symbol-next : (b : ℕ) → (block_of F (b + 1)).symbol ≡ (block_of F b).symbol + ((block_of F b).rate + 4)
  unfolding block_of first_block
  symbol-next zero = omega arith
  symbol-next (suc b) =
      let e : suc b + 1 ≡ suc (suc b) = omega arith in
      rw e (omega arith)

  module _ (v : Valid F) where
    pub rows_fit : (b : ℕ) → (5 ≤ (block_of F b).rows) × ((block_of F b).rows ≤ 12)
    unfolding block_of first_block rows_of_first
    rows_fit zero = omega arith
    rows_fit (suc b) = rows-range F v

    pub rate-fits : (b : ℕ) → (1 ≤ (block_of F b).rate) × ((block_of F b).rate ≤ 4)
    unfolding block_of first_block
    rate-fits zero = omega arith
    rate-fits (suc b) = omega arith

    -- a codeword, and a symbol, that stand in block b
    pub codeword-in : (b i : ℕ) → i < (block_of F b).rows → block_of_codeword F ((block_of F b).codeword + i) ≡ b
    unfolding block_of first_block block_of_codeword
    codeword-in zero i h = rw (lt-ltb (0 + i) (rows_of_first F.sf) (omega arith))
    codeword-in (suc b) i h =
        let n : ℕ = rows_of_later F in
        let x : ℕ = rows_of_first F.sf + n * b + i in
        let e : x - rows_of_first F.sf ≡ b * n + i = omega (arith, mul_comm n b) in
        rw (le-ltb x (rows_of_first F.sf) (omega arith), e) (ap suc (digits_div b h))

    pub symbol-in : (b j : ℕ) → j < (block_of F b).rate + 4 → block_of_symbol F ((block_of F b).symbol + j) ≡ b
    unfolding block_of first_block block_of_symbol
    symbol-in zero j h = rw (lt-ltb (0 + j) 8 (omega arith))
    symbol-in (suc b) j h =
        let n : ℕ = F.cr + 4 in
        let x : ℕ = 8 + n * b + j in
        let e : x - 8 ≡ b * n + j = omega (arith, mul_comm n b) in
        rw (le-ltb x 8 (omega arith), e) (ap suc (digits_div b h))

    module _ (nibbles : ℕ) where
      -- each block of the frame begins below its last nibble, the blocks have places for all nibbles, and the symbols are as many as counted
      pub codeword-within : (b : ℕ) → b ≤ later_blocks F nibbles → (block_of F b).codeword ≤ nibbles
      unfolding remaining block_of first_block
      codeword-within zero h = omega arith
      codeword-within (suc b) h =
          let (five, twelve) = rows-range F v in
          omega (arith, later-needed F nibbles v, mul-le-mul_left (rows_of_later F) h)

      pub codeword-end : nibbles ≤ (block_of F (later_blocks F nibbles + 1)).codeword
      unfolding remaining block_of first_block
      codeword-end = rw add-one (omega (arith, later-enough F nibbles v))

      pub symbol_end : (block_of F (later_blocks F nibbles + 1)).symbol ≡ symbol_count F nibbles
      unfolding block_of first_block symbol_count
      symbol_end = rw add-one

      pub symbols-below : (b : ℕ) → b ≤ later_blocks F nibbles → (block_of F b).symbol + ((block_of F b).rate + 4) ≤ symbol_count F nibbles
      unfolding block_of first_block symbol_count
      symbols-below zero h = omega arith
      symbols-below (suc b) h = omega (arith, mul-le-mul_left (F.cr + 4) h)

-- where block 0 has places for all nibbles no block follows
pub no-later : (F : Frame) (nibbles : ℕ) → Valid F → nibbles ≤ F.sf - 2 → later_blocks F nibbles ≡ 0
unfolding later_blocks remaining rows_of_first
no-later F nibbles v m =
    let (five, twelve) = rows-range F v in
    div-eq_of_lt (omega arith)

-- a block of a frame is as blocks are
pub block-fits : (F : Frame) (b : ℕ) → Valid F → b ≤ 255 → Fits (block_of F b)
unfolding block_of first_block rows_of_first
block-fits F zero v h =
    record { rows-low = omega arith; rows-high = omega arith; rate-low = omega arith; rate-high = omega arith; codeword-high = omega arith; symbol_high = omega arith }
block-fits F (suc b) v h =
    let (five, twelve) = rows-range F v in
    record {
      rows-low = five;
      rows-high = twelve;
      rate-low = v.cr-low;
      rate-high = v.cr-high;
      codeword-high = omega (arith, product_le 12 255 {b = b} twelve (omega arith));
      symbol_high = omega (arith, product_le 8 255 {a = F.cr + 4} {b = b} (omega arith) (omega arith));
    }

-- the codewords of block 0, whatever the rest of the frame is like
pub in-first : (F : Frame) (i : ℕ) → i < F.sf - 2 → block_of_codeword F i ≡ 0
unfolding block_of_codeword rows_of_first
in-first F i h = rw (lt-ltb i (F.sf - 2) h)

-- the rate of block 0, and of the blocks behind it
pub rate-first : (F : Frame) (i : ℕ) → i < F.sf - 2 → (block_of F (block_of_codeword F i)).rate ≡ 4
unfolding block_of first_block
rate-first F i h = rw (in-first F i h)

pub rate-later : (F : Frame) (i : ℕ) → F.sf - 2 ≤ i → (block_of F (block_of_codeword F i)).rate ≡ F.cr
unfolding block_of first_block block_of_codeword rows_of_first
rate-later F i h = rw (le-ltb i (F.sf - 2) h)

-- codeword i stands in its block, and the block of a codeword that is read is one of the frame's
module _ (F : Frame) (v : Valid F) where
  pub codeword-place : (i : ℕ) → let B : Block = block_of F (block_of_codeword F i) in (B.codeword ≤ i) × (i < B.codeword + B.rows)
  unfolding block_of first_block block_of_codeword
  codeword-place i = at (ltb i (rows_of_first F.sf)) refl
    where
      at : (t : Bool) → ltb i (rows_of_first F.sf) ≡ t
          → let B : Block = block_of F (cond t 0 (suc ((i - rows_of_first F.sf) / rows_of_later F))) in (B.codeword ≤ i) × (i < B.codeword + B.rows)
      at true e = omega (arith, ltb-true i (rows_of_first F.sf) e)
      at false e =
          let n : ℕ = rows_of_later F in
          let x : ℕ = i - rows_of_first F.sf in
          let (five, twelve) = rows-range F v in
          omega (arith, ltb-false i (rows_of_first F.sf) e, div-add-mod' x n, mod-lt x {m = n} (omega arith), mul_comm n (x / n))

  pub block-of-read : (i nibbles : ℕ) → i < nibbles → block_of_codeword F i ≤ later_blocks F nibbles
  unfolding block_of_codeword remaining
  block-of-read i nibbles h = at (ltb i (rows_of_first F.sf)) refl
    where
      at : (t : Bool) → ltb i (rows_of_first F.sf) ≡ t → cond t 0 (suc ((i - rows_of_first F.sf) / rows_of_later F)) ≤ later_blocks F nibbles
      at true e = omega arith
      at false e =
          let n : ℕ = rows_of_later F in
          let L : ℕ = later_blocks F nibbles in
          let (five, twelve) = rows-range F v in
          (div-lt_iff_lt-mul {k = n} {x = i - rows_of_first F.sf} {y = L} (omega arith)).1
          (omega (arith, ltb-false i (rows_of_first F.sf) e, later-enough F nibbles v, mul_comm n L))

  -- no codeword stands before block 0
  first-at : (i : ℕ) → i < (block_of F 0).codeword → ⊥
  unfolding block_of first_block
  first-at i l = omega arith

  -- the symbols of a codeword before block b stand before that block's
  pub symbols-before : (b i : ℕ) → i < (block_of F b).codeword
      → let B : Block = block_of F (block_of_codeword F i) in B.symbol + (B.rate + 4) ≤ (block_of F b).symbol
  symbols-before zero i h = absurd (first-at i h)
  symbols-before (suc b) i h = at (ltb i (block_of F b).codeword) refl (symbols-before b i)
    where
      next : (block_of F (suc b)).symbol ≡ (block_of F b).symbol + ((block_of F b).rate + 4)
      next = rw add-one at (symbol-next F b)

      at : (t : Bool) → ltb i (block_of F b).codeword ≡ t
          → (i < (block_of F b).codeword → let B : Block = block_of F (block_of_codeword F i) in B.symbol + (B.rate + 4) ≤ (block_of F b).symbol)
          → let B : Block = block_of F (block_of_codeword F i) in B.symbol + (B.rate + 4) ≤ (block_of F (suc b)).symbol
      at true e earlier = omega (arith, next, earlier (ltb-true i (block_of F b).codeword e))
      at false e earlier =
          let from : (block_of F b).codeword ≤ i = ltb-false i (block_of F b).codeword e in
          let k : ℕ = i - (block_of F b).codeword in
          let is : (block_of F b).codeword + k ≡ i = omega arith in
          let below : i < (block_of F b).codeword + (block_of F b).rows = rw (← codeword-next F b, add-one) h in
          let own : block_of_codeword F i ≡ b = rw is at (codeword-in F v b k (omega arith)) in
          rw own (omega (arith, next))
