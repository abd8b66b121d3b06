-- In which symbols codewords are repaired: a block's flips, counted row by row, and the frame's marks, block by block.
-- Assumes nothing.
use mathlib.Core.Path.{◌≡◌, refl, sym, ap, ◌∙◌}
use mathlib.Core.Bool.{Bool, true, false, not, ◌&&◌}
use mathlib.Core.List.{List}
use Prim.Native.Nat.{ℕ, ◌+◌, ◌-◌, ◌^◌, ◌≤◌, ◌<◌}
use native.Mathlib.Decide.{ℕ_discrete}
use native.Mathlib.Omega.{arith}
use lib.Dec.{eqb, ltb}
use lib.ListN.{length, get_or}
use borrow.Author.Tests.{ltb-true, ltb-false, eq-eqb, ne_eqb}
use Rattle.bits.specs.Bit.{as_bit}
use Rattle.bits.specs.Bytes.{packed, step_of}
use Rattle.bits.specs.Search.{how_many}
use Rattle.bits.specs.Tab.{over_at}
use Rattle.bits.proofs.Packs.{packed_lt, byte-packed, packed-add, packed-cong}
use Rattle.bits.proofs.Searches.{how_many-more, how_many-le, how_many-add, how_many-cong, how_many-none, how_many-rest}
use Rattle.bits.proofs.Tabs.{get_or-over_at, get_or-over_at-before, length-over_at}
use Rattle.codeword.specs.Codeword.{flipped_bit, is_repaired}
use Rattle.codeword.specs.Ranges.{Rate}
use Rattle.codeword.specs.Found.{Found, taken, repaired, unreadable}
use Rattle.codeword.proofs.CodeLaws.{flipped-lt, repaired-where}
use Rattle.layout.specs.declared.Block.{Block}
use Rattle.layout.specs.declared.Frame.{Frame}
use Rattle.layout.specs.Layout.{block_of, block_of_codeword}
use Rattle.layout.specs.Ranges.{Valid}
use Rattle.layout.proofs.LayoutLaws.{rate-fits, codeword-in, symbols-before}
use Rattle.reading.specs.Found.{found_in_block, found_at, repaired_at, symbol_of_bit, repaired_in, hurt_at}
use Rattle.reading.specs.Stages.{grid_of_symbols, read_row, rows_from, flips, bytes_of, Marked}
use Rattle.reading.proofs.ReadLoop.{Clear}
use Rattle.reading.proofs.ReadingLaws.{word_lt}
use Rattle.reading.proofs.RowLaws.{row-found, row_lt}

-- no row is counted yet, one more is, and the number stays small
pub flips-none : (found : ℕ → Found) → 0 ≡ flips found 0
unfolding flips packed how_many
flips-none found = refl

module _ (found : ℕ → Found) (m : ℕ) where
  count : ℕ → ℕ
  count j = how_many (λ i. eqb (flipped_bit (found i)) j) m

  pub flips-more : {l b : ℕ} → l ≡ flips found m → b ≡ flipped_bit (found m) → l + step_of 8 b ≡ flips found (m + 1)
  unfolding flips step_of count
  flips-more {l} {b} e q =
      ap (λ (x : ℕ). x + packed 8 (λ k. as_bit (eqb b k))) e ∙ packed-add 8 count (λ k. as_bit (eqb b k))
      ∙ packed-cong 8 _ _ (λ k h. how_many-more (λ i. eqb (flipped_bit (found i)) k) m refl (ap (λ (x : ℕ). as_bit (eqb x k)) q))

  count-lt : m ≤ 255 → (j : ℕ) → count j < 256
  unfolding count
  count-lt h j = omega (arith, how_many-le (λ i. eqb (flipped_bit (found i)) j) m)

  pub flips-lt : m ≤ 255 → flips found m < 256 ^ 8
  unfolding flips count
  flips-lt h = packed_lt 8 count (count-lt h)

  flips-byte : m ≤ 255 → (j : ℕ) → j < 8 → bytes_of (flips found m) j ≡ how_many (λ i. eqb (flipped_bit (found i)) j) m
  unfolding flips bytes_of count
  flips-byte h j l = byte-packed 8 count (count-lt h) j l

-- of rows that were read those with no flip are counted, and the others are repaired
module _ (rate : ℕ) (g : List (List Bool)) (from n : ℕ) {clean repairs : ℕ} (ok : Rate rate)
    (counted : clean ≡ how_many (λ i. eqb (flipped_bit (rows_from rate g from i)) 8) n) (read : Clear (rows_from rate g from) n repairs) where
  good : (i : ℕ) → i < n → repaired_at (rows_from rate g from) i ≡ not (eqb (flipped_bit (rows_from rate g from i)) 8)
  unfolding read_row rows_from
  good i h = repaired-where rate _ ok (row_lt (4 + rate) g (from + i)) (read.good i h)

  all : repairs + clean ≡ n
  all = rw (read.counts, counted, how_many-cong _ _ n good) (how_many-rest (λ i. eqb (flipped_bit (rows_from rate g from i)) 8) n)

  pub rows-clean : clean ≤ n
  rows-clean = omega (arith, all)

  pub rows-repairs : n - clean ≡ repairs
  rows-repairs = omega (arith, all)

-- a bit that is counted for one of the eight columns is a repair's
counted : (f : Found) (j : ℕ) → j < 8 → (is_repaired f && eqb (flipped_bit f) j) ≡ eqb (flipped_bit f) j
counted (taken d) j h = sym (ne_eqb 8 j (λ e. omega arith))
counted (repaired d k) j h = refl
counted unreadable j h = sym (ne_eqb 9 j (λ e. omega arith))

and-false : (a : Bool) {b : Bool} → b ≡ false → (a && b) ≡ false
and-false true e = e
and-false false e = refl

eqb-shift : (a x y : ℕ) → eqb (a + x) (a + y) ≡ eqb x y
eqb-shift a x y = at (ℕ_discrete x y)
  where
    at : Dec (x ≡ y) → eqb (a + x) (a + y) ≡ eqb x y
    at (yes e) = eq-eqb (a + x) (a + y) (ap (λ (k : ℕ). a + k) e) ∙ sym (eq-eqb x y e)
    at (no e) = ne_eqb (a + x) (a + y) (λ f. e (omega arith)) ∙ sym (ne_eqb x y e)

module _ (F : Frame) (v : Valid F) (symbols : List ℕ) where
  -- the bit of a codeword that is repaired is one of its block's columns
  pub flipped-within : (i : ℕ) → is_repaired (found_at F symbols i) ≡ true → flipped_bit (found_at F symbols i) < 4 + (block_of F (block_of_codeword F i)).rate
  unfolding found_at found_in_block
  flipped-within i =
      let B : Block = block_of F (block_of_codeword F i) in
      let (low, high) = rate-fits F v (block_of_codeword F i) in
      flipped-lt _ _ (record { low = low; high = high }) (word_lt B symbols (i - B.codeword))

  module _ (b : ℕ) {B : Block} (is : B ≡ block_of F b) {g : List (List Bool)} (grid : g ≡ grid_of_symbols B symbols) where
    -- row i of a block is the frame's codeword, and stands in the block's symbols
    row_is : (i : ℕ) → i < B.rows → read_row B.rate g i ≡ found_at F symbols (B.codeword + i)
    unfolding rows_from
    row_is i h = let z : 0 + i ≡ i = omega arith in rw z at (row-found F b symbols 0 i v is grid (omega arith))

    symbol-is : (i j : ℕ) → i < B.rows → symbol_of_bit F (B.codeword + i) j ≡ B.symbol + j
    unfolding symbol_of_bit
    symbol-is i j h = rw is (ap (λ (x : ℕ). (block_of F x).symbol + j) (codeword-in F v b i (rw is at h)))

    -- so it is repaired in the block's symbol j where its bit j is flipped
    in_block : (i j : ℕ) → i < B.rows → j < 8 → repaired_in F symbols (B.symbol + j) (B.codeword + i) ≡ eqb (flipped_bit (read_row B.rate g i)) j
    unfolding repaired_in
    in_block i j h l =
        rw (← row_is i h, symbol-is i (flipped_bit (read_row B.rate g i)) h, eqb-shift B.symbol (flipped_bit (read_row B.rate g i)) j)
        (counted (read_row B.rate g i) j l)

    -- it is repaired in no symbol before the block, and a codeword before the block in none of it or behind it
    none_before : (t i : ℕ) → t < B.symbol → i < B.rows → repaired_in F symbols t (B.codeword + i) ≡ false
    unfolding repaired_in
    none_before t i l h =
        let j : ℕ = flipped_bit (found_at F symbols (B.codeword + i)) in
        rw (symbol-is i j h) (and-false (is_repaired (found_at F symbols (B.codeword + i))) (ne_eqb (B.symbol + j) t (λ e. omega arith)))

    none-behind : (t i : ℕ) → B.symbol ≤ t → i < B.codeword → repaired_in F symbols t i ≡ false
    unfolding repaired_in symbol_of_bit
    none-behind t i l h = at (is_repaired (found_at F symbols i)) refl
      where
        at : (r : Bool) → is_repaired (found_at F symbols i) ≡ r
            → (r && eqb ((block_of F (block_of_codeword F i)).symbol + flipped_bit (found_at F symbols i)) t) ≡ false
        at false e = refl
        at true e = ne_eqb _ t (λ q. omega (arith, flipped-within i e, symbols-before F v b i (rw is at h), ap (λ (x : Block). x.symbol) is))

    -- the marks of the codewords before the block, and the block's own counts behind them
    module _ {m counts : ℕ} {old new : List ℕ} (few : m ≤ B.rows) (most : B.rows ≤ 12) (count : counts ≡ flips (read_row B.rate g) m) (rate : B.rate ≤ 4)
        (room : B.symbol + 8 ≤ 832) (write : new ≡ over_at B.symbol 8 (bytes_of counts) old) (marks : Marked F symbols B.codeword B.symbol old) where
      hurt-sum : (t : ℕ) → hurt_at F symbols (B.codeword + m) t ≡ hurt_at F symbols B.codeword t + how_many (λ i. repaired_in F symbols t (B.codeword + i)) m
      unfolding hurt_at
      hurt-sum t = how_many-add (repaired_in F symbols t) B.codeword m

      cell-before : (t : ℕ) → t < B.symbol → get_or new t 0 ≡ hurt_at F symbols (B.codeword + m) t
      cell-before t h =
          let kept : get_or new t 0 ≡ hurt_at F symbols B.codeword t
          = ap (λ (l : List ℕ). get_or l t 0) write ∙ get_or-over_at-before B.symbol 8 _ old 0 (omega (arith, marks.long)) t h ∙ marks.cells t h in
          omega (arith, kept, hurt-sum t, how_many-none (λ i. repaired_in F symbols t (B.codeword + i)) m (λ i l. none_before t i h (omega arith)))

      cell-here : (j : ℕ) → j < 8 → get_or new (B.symbol + j) 0 ≡ hurt_at F symbols (B.codeword + m) (B.symbol + j)
      unfolding hurt_at
      cell-here j h =
          let own : get_or new (B.symbol + j) 0 ≡ how_many (λ i. eqb (flipped_bit (read_row B.rate g i)) j) m
          = ap (λ (l : List ℕ). get_or l (B.symbol + j) 0) write ∙ get_or-over_at B.symbol 8 _ old 0 (omega (arith, marks.long)) j h
          ∙ ap (λ (x : ℕ). bytes_of x j) count ∙ flips-byte (read_row B.rate g) m (omega arith) j h in
          let same = how_many-cong (λ i. repaired_in F symbols (B.symbol + j) (B.codeword + i)) _ m (λ i l. in_block i j (omega arith) h) in
          let none = how_many-none (repaired_in F symbols (B.symbol + j)) B.codeword (λ i l. none-behind (B.symbol + j) i (omega arith) l) in
          own ∙ omega (arith, same, none, hurt-sum (B.symbol + j))

      pub marked_more : Marked F symbols (B.codeword + m) (B.symbol + (B.rate + 4)) new
      marked_more =
          record {
            long = ap length write ∙ length-over_at B.symbol 8 (bytes_of counts) old (omega (arith, marks.long)) ∙ marks.long;
            cells = λ t h. at t h (ltb t B.symbol) refl;
          }
        where
          at : (t : ℕ) → t < B.symbol + (B.rate + 4) → (l : Bool) → ltb t B.symbol ≡ l → get_or new t 0 ≡ hurt_at F symbols (B.codeword + m) t
          at t h true e = cell-before t (ltb-true t B.symbol e)
          at t h false e =
              let from : B.symbol ≤ t = ltb-false t B.symbol e in
              let j : ℕ = t - B.symbol in
              let w : B.symbol + j ≡ t = omega arith in
              rw w at (cell-here j (omega arith))

-- before block 0 there is nothing to mark
pub marked-none : (F : Frame) (symbols hurts : List ℕ) → length hurts ≡ 832 → Marked F symbols 0 0 hurts
marked-none F symbols hurts long = record { long = long; cells = λ t h. absurd (omega arith) }
