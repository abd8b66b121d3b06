-- The data codewords of a frame: those of block 0 behind the header, and those of the later blocks.
-- Assumes nothing.
use mathlib.Core.Path.{◌≡◌, ap, ◌∙◌}
use mathlib.Core.Bool.{Bool}
use mathlib.Core.List.{List}
use Prim.Native.Nat.{ℕ, ◌+◌, ◌-◌, ◌*◌, ◌≤◌, ◌<◌, min}
use native.Mathlib.Omega.{arith}
use lib.ListN.{length}
use Rattle.bits.specs.Tab.{over_at}
use Rattle.layout.specs.declared.Block.{Block}
use Rattle.layout.specs.declared.Frame.{Frame}
use Rattle.layout.specs.Layout.{rows_of_first, block_of, first_block, remaining, later_blocks, symbol_count}
use Rattle.layout.specs.Ranges.{Valid}
use Rattle.layout.proofs.LayoutLaws.{no-later}
use Rattle.reading.specs.Found.{found_at}
use Rattle.reading.specs.Stages.{grid_of_symbols, read_row, rows_from, data_found, later_found, Walk, flips, bytes_of, Marked}
use Rattle.reading.proofs.HurtLaws.{marked-none, marked_more}
use Rattle.reading.proofs.ReadLoop.{walk-range, walk-long, walk-on}
use Rattle.reading.proofs.ReadingLaws.{walk_same}
use Rattle.reading.proofs.RowLaws.{row-found}

-- block 0 begins at codeword 0, and it has room for the header
pub zero-fits : (F : Frame) {B : Block} → Valid F → B ≡ first_block F.sf
    → (B.codeword ≡ 0) × (B.rate ≡ 4) × (B.rows ≡ rows_of_first F.sf) × (F.header ≤ B.rows) × (B.rows ≤ 12)
unfolding first_block rows_of_first
zero-fits F v e = (rw e, rw e, rw e, rw e (omega arith), rw e (omega arith))

-- the rows of block 0 behind the header, as far as they were read
module _ (F : Frame) (symbols : List ℕ) (n : ℕ) {m end r : ℕ} {B : Block} {g : List (List Bool)} {old mid : List ℕ} (v : Valid F) (is : B ≡ first_block F.sf)
    (grid : g ≡ grid_of_symbols (first_block F.sf) symbols) (w : Walk (rows_from B.rate g F.header) m F.header old mid end r)
    (rows : m ≡ min (B.rows - F.header) n) where
  first_walk : Walk (data_found F symbols) m F.header old mid end r
  unfolding data_found block_of
  first_walk =
      walk_same w (λ i l. row-found F 0 symbols F.header i v is (rw is grid) (omega arith) ∙ ap (found_at F symbols) (omega (arith, zero-fits F v is)))

  -- all of them were read, and the symbols of block 0 marked
  pub first-marked : (old' : List ℕ) {counts : ℕ} {new' : List ℕ} → m ≤ end → counts ≡ flips (read_row B.rate g) (F.header + end) → length old' ≡ 832
      → new' ≡ over_at B.symbol 8 (bytes_of counts) old' → Marked F symbols (F.header + m) 8 new'
  unfolding block_of first_block
  first-marked old' l count long write =
      let (codeword, rate, first, header, high) = zero-fits F v is in
      let all : F.header + end ≡ F.header + m = omega (arith, walk-range w) in
      let at : B.symbol ≡ 0 = rw is in
      let begun : Marked F symbols B.codeword B.symbol old' = rw (codeword, at) (marked-none F symbols old' long) in
      let columns : B.symbol + (B.rate + 4) ≡ 8 = omega (arith, at, rate) in
      let done : B.codeword + (F.header + m) ≡ F.header + m = omega (arith, codeword) in
      rw (columns, done) at
      (marked_more F v symbols 0 is (rw is grid) (omega arith) high (rw all at count) (omega (arith, rate)) (omega (arith, at)) write begun)

  -- one of them can't be read, or the data end there
  pub data-stop : end < B.rows - F.header → Walk (data_found F symbols) n F.header old mid end r
  data-stop l = walk-long first_walk (omega arith) (λ h. omega arith)

  -- and where the data end there no block follows
  pub data-marked : (old' : List ℕ) {counts : ℕ} {new' : List ℕ} → n ≤ end → end < B.rows - F.header → counts ≡ flips (read_row B.rate g) (F.header + end) → length old' ≡ 832
      → new' ≡ over_at B.symbol 8 (bytes_of counts) old' → Marked F symbols (F.header + n) (symbol_count F (F.header + n)) new'
  unfolding symbol_count rows_of_first
  data-marked old' all l count long write =
      let (codeword, rate, first, header, high) = zero-fits F v is in
      let none : later_blocks F (F.header + n) ≡ 0 = no-later F (F.header + n) v (omega (arith, first)) in
      let eight : 8 + (F.cr + 4) * later_blocks F (F.header + n) ≡ 8 = rw none (omega arith) in
      let e : m ≡ n = omega arith in
      rw eight (rw e at (first-marked old' (omega arith) count long write))

  -- the data go on in the later blocks
  pub data-on : {t s : ℕ} {new : List ℕ} → B.rows - F.header ≤ end → F.header + n ≤ length old
      → Walk (later_found F symbols) (remaining F (F.header + n)) (rows_of_first F.sf) mid new t s
      → Walk (data_found F symbols) n F.header old new (B.rows - F.header + t) (r + s)
  unfolding data_found later_found remaining
  data-on {t} {s} {new} l room later =
      let (codeword, rate, first, header, high) = zero-fits F v is in
      let inside : ℕ = B.rows - F.header in
      let all : m ≡ inside = omega (arith, walk-range w) in
      let ended : end ≡ inside = omega (arith, walk-range w) in
      let count : inside + (F.header + n - rows_of_first F.sf) ≡ n = omega (arith, walk-range w) in
      let whole : Walk (data_found F symbols) (inside + (F.header + n - rows_of_first F.sf)) F.header old new (inside + t) (r + s) =
      walk-on (rw (all, ended) at first_walk) later (omega arith) (omega (arith, count)) (λ i k. ap (found_at F symbols) (omega arith)) in
      rw count at whole
