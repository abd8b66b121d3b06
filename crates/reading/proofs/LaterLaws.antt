-- The later blocks of a frame, read one behind the other.
-- Assumes nothing.
use mathlib.Core.Path.{◌≡◌, ap, ◌∙◌}
use mathlib.Core.Bool.{Bool}
use mathlib.Core.List.{List}
use Prim.Native.Nat.{ℕ, ◌+◌, ◌-◌, ◌≤◌, ◌<◌, min}
use native.Mathlib.Omega.{arith}
use lib.ListN.{length}
use Rattle.bits.specs.Tab.{over_at}
use Rattle.layout.specs.declared.Block.{Block}
use Rattle.layout.specs.declared.Frame.{Frame}
use Rattle.layout.specs.Layout.{rows_of_first, block_of, remaining, later_blocks, symbol_count}
use Rattle.layout.specs.Ranges.{Valid, Fits}
use Rattle.layout.proofs.LayoutLaws.{product_le, block-later, block-fits, later-le, codeword-next, symbol-next, codeword-end, codeword-within, symbol_end, symbols-below}
use Rattle.reading.specs.Found.{found_at}
use Rattle.reading.specs.Stages.{grid_of_symbols, read_row, rows_from, later_found, Walk, flips, bytes_of, Marked}
use Rattle.reading.proofs.HurtLaws.{marked_more}
use Rattle.reading.proofs.ReadLoop.{walk_none, walk-range, walk-le, walk-long, walk-on}
use Rattle.reading.proofs.RowLaws.{row-found}

-- a later block of a frame of n codewords: it is as blocks are, it begins behind block 0 and at most at n, and its symbols are
-- among the frame's
pub record Placed (F : Frame) (n b : ℕ) (B : Block) : Type 0 where
  pub valid : Valid F
  pub is : B ≡ block_of F b
  pub fits : Fits B
  pub behind : rows_of_first F.sf ≤ B.codeword
  pub below : B.codeword ≤ n
  pub within : B.symbol + (4 + B.rate) ≤ symbol_count F n
  pub room : B.symbol + 8 ≤ 832

later-behind : (F : Frame) (b : ℕ) → 1 ≤ b → rows_of_first F.sf ≤ (block_of F b).codeword
later-behind F b h = rw (block-later F b h) (omega arith)

-- the cells of eight symbols from a block's first on are among the 832
later-room : (F : Frame) (b : ℕ) → Valid F → 1 ≤ b → b ≤ 103 → (block_of F b).symbol + 8 ≤ 832
later-room F b v h l = rw (block-later F b h) (omega (arith, product_le 8 102 {a = F.cr + 4} {b = b - 1} (omega arith) (omega arith)))

pub placed : (F : Frame) (n b : ℕ) {B : Block} → Valid F → n ≤ 519 → 1 ≤ b → b ≤ later_blocks F n → B ≡ block_of F b → Placed F n b B
placed F n b {B} v most later l e =
    record {
      valid = v;
      is = e;
      fits = rw e (block-fits F b v (omega (arith, later-le F n v most)));
      behind = rw e (later-behind F b later);
      below = rw e (codeword-within F v n b l);
      within = rw e (omega (arith, symbols-below F v n b l));
      room = rw e (later-room F b v later (omega (arith, later-le F n v most)));
    }

-- how many of the n codewords stand behind block 0 and before block b
unfoldable pub before : Frame → ℕ → ℕ → ℕ
before F n b = min (block_of F b).codeword n - rows_of_first F.sf

-- they have all been read, and the symbols before block b are marked with the codewords before it
pub record Sofar (F : Frame) (symbols : List ℕ) (n b : ℕ) (old new : List ℕ) (repairs : ℕ) (hurts : List ℕ) : Type 0 where
  pub walk : Walk (later_found F symbols) (before F n b) (rows_of_first F.sf) old new (before F n b) repairs
  pub marks : Marked F symbols (min (block_of F b).codeword n) (block_of F b).symbol hurts

-- there are no more repairs than codewords
pub sofar-le : {F : Frame} {symbols : List ℕ} {n b repairs : ℕ} {old new hurts : List ℕ} → Sofar F symbols n b old new repairs hurts → repairs ≤ n
unfolding before
sofar-le {F} {symbols} {n} {b} p = omega (arith, walk-le p.walk)

-- before block 1 there are none, and block 0 is marked
pub sofar-none : (F : Frame) (symbols : List ℕ) (n : ℕ) (old : List ℕ) {hurts : List ℕ} → rows_of_first F.sf ≤ n → Marked F symbols (rows_of_first F.sf) 8 hurts
    → Sofar F symbols n 1 old old 0 hurts
unfolding before block_of
sofar-none F symbols n old many marks =
    let z : min (block_of F 1).codeword n - rows_of_first F.sf ≡ 0 = omega arith in
    let first : min (block_of F 1).codeword n ≡ rows_of_first F.sf = omega arith in
    let eight : (block_of F 1).symbol ≡ 8 = omega arith in
    record { walk = rw z (walk_none (later_found F symbols) (rows_of_first F.sf) old); marks = rw (first, eight) marks }

-- behind the last block there are no others
module _ {F : Frame} {symbols : List ℕ} {n b repairs : ℕ} {old new hurts : List ℕ} (p : Sofar F symbols n b old new repairs hurts) (v : Valid F)
    (last : b ≡ later_blocks F n + 1) where
  pub sofar-end : {start : ℕ} → start ≡ rows_of_first F.sf → Walk (later_found F symbols) (remaining F n) (rows_of_first F.sf) old new (n - start) repairs
  unfolding before remaining
  sofar-end s =
      let whole : n ≤ (block_of F b).codeword = rw last (codeword-end F v n) in
      let all : min (block_of F b).codeword n - rows_of_first F.sf ≡ n - rows_of_first F.sf = omega arith in
      rw s (rw all at p.walk)

  pub sofar-marked : Marked F symbols n (symbol_count F n) hurts
  sofar-marked =
      let whole : n ≤ (block_of F b).codeword = rw last (codeword-end F v n) in
      let all : min (block_of F b).codeword n ≡ n = omega arith in
      let end : (block_of F b).symbol ≡ symbol_count F n = rw last (symbol_end F v n) in
      rw (all, end) at p.marks

-- a block more, as far as its codewords were read
module _ {F : Frame} {symbols : List ℕ} {n b m end r s : ℕ} {B : Block} {g : List (List Bool)} {old mid new hurts : List ℕ} (q : Placed F n b B)
    (p : Sofar F symbols n b old mid r hurts) (w : Walk (rows_from B.rate g 0) m B.codeword mid new end s) (grid : g ≡ grid_of_symbols B symbols)
    (rows : m ≡ min B.rows (n - B.codeword)) (room : n ≤ length old) where
  block_on : Walk (later_found F symbols) (B.codeword - rows_of_first F.sf + m) (rows_of_first F.sf) old new (B.codeword - rows_of_first F.sf + end) (r + s)
  unfolding before later_found
  block_on =
      let here : min (block_of F b).codeword n - rows_of_first F.sf ≡ B.codeword - rows_of_first F.sf = rw (← q.is) (omega (arith, q.below)) in
      walk-on (rw here at p.walk) w (omega (arith, q.behind)) (omega (arith, q.behind, q.below))
      (λ i l. row-found F b symbols 0 i q.valid q.is grid (omega arith) ∙ ap (found_at F symbols) (omega (arith, q.behind)))

  -- all its rows were read, and its symbols marked
  module _ {counts : ℕ} {hurts' : List ℕ} (count : counts ≡ flips (read_row B.rate g) (0 + end)) (write : hurts' ≡ over_at B.symbol 8 (bytes_of counts) hurts) where
    block-marked : m ≤ end → Marked F symbols (B.codeword + m) (B.symbol + (B.rate + 4)) hurts'
    block-marked l =
        let all : 0 + end ≡ m = omega (arith, walk-range w) in
        let here : min (block_of F b).codeword n ≡ B.codeword = rw (← q.is) (omega (arith, q.below)) in
        let first : (block_of F b).symbol ≡ B.symbol = rw (← q.is) in
        marked_more F q.valid symbols b q.is grid (omega arith) q.fits.rows-high (rw all at count) q.fits.rate-high q.room write (rw (here, first) at p.marks)

    pub sofar-more : m ≤ end → Sofar F symbols n (b + 1) old new (r + s) hurts'
    unfolding before
    sofar-more l =
        let next : (block_of F (b + 1)).codeword ≡ B.codeword + B.rows = rw q.is (codeword-next F b) in
        let done : min (block_of F (b + 1)).codeword n - rows_of_first F.sf ≡ B.codeword - rows_of_first F.sf + m = omega (arith, next, q.behind, q.below) in
        let read : min (block_of F (b + 1)).codeword n ≡ B.codeword + m = omega (arith, next, q.behind, q.below) in
        let onward : (block_of F (b + 1)).symbol ≡ B.symbol + (B.rate + 4) = rw q.is (symbol-next F b) in
        let all : end ≡ m = omega (arith, walk-range w) in
        record { walk = rw done (rw all at block_on); marks = rw (read, onward) (block-marked l) }

  -- one of its rows can't be read
  pub sofar-stop : {start : ℕ} → start ≡ rows_of_first F.sf → end < m
      → Walk (later_found F symbols) (remaining F n) (rows_of_first F.sf) old new (B.codeword - start + end) (r + s)
  unfolding remaining
  sofar-stop e l = rw e (walk-long block_on (omega (arith, q.behind, q.below)) (λ h. absurd (omega arith)))

  -- and then not all codewords were read
  pub stop-early : {start : ℕ} → start ≡ rows_of_first F.sf → end < m → B.codeword - start + end < remaining F n
  unfolding remaining
  stop-early e l = omega (arith, q.behind, q.below)
