-- The rest of block 0 is read and marked, and then the later blocks.
use mathlib.Core.Path.{◌≡◌}
use Prim.Native.Nat.{ℕ, ◌+◌}
use native.Mathlib.Omega.{arith}
use Rattle.layout.specs.Layout.{rows_of_first, first_block, remaining}
use Rattle.layout.specs.declared.Block.{Block}
use Rattle.reading.proofs.DataLaws.{zero-fits, first-marked, data-stop, data-marked, data-on}
use Rattle.reading.proofs.ReadLoop.{walk-range, walk-le}
use Rattle.reading.proofs.read_data.Goals as goal

-- block 0 begins at symbol 0
at_zero : (sf : ℕ) {B : Block} → B ≡ first_block sf → B.symbol ≡ 0
unfolding first_block
at_zero sf e = rw e

pub overflow_sub-inside : goal.overflow_sub-inside
overflow_sub-inside c = omega (arith, zero-fits c.args.f c.requires.0 c.first_block-b.ensures)

pub read_rows-p-requires : goal.read_rows-p-requires
read_rows-p-requires c =
    let p = c.requires in
    let fits = zero-fits c.args.f p.0 c.first_block-b.ensures in (
      record { low = omega arith; high = omega arith },
      omega (arith, c.min-rows.ensures),
      omega (arith, c.min-rows.ensures),
      rw fits.1 p.2,
    )

pub mark-requires : goal.mark-requires
mark-requires c = omega (arith, at_zero c.args.f.sf c.first_block-b.ensures)

pub returns-then-p-inside : goal.returns-then-p-inside
returns-then-p-inside c =
    let p = c.requires in
    let least = c.min-rows.ensures in (
      data-stop _ _ _ p.0 c.first_block-b.ensures p.1 c.read_rows-p.ensures.0 least c.if-p-inside.true,
      λ h. data-marked _ _ _ p.0 c.first_block-b.ensures p.1 c.read_rows-p.ensures.0 least _ h c.if-p-inside.true c.read_rows-p.ensures.1 (omega arith) c.mark.ensures,
    )

pub read_later-rest-requires : goal.read_later-rest-requires
read_later-rest-requires c =
    let p = c.requires in
    let least = c.min-rows.ensures in
    let fits = zero-fits c.args.f p.0 c.first_block-b.ensures in
    let all : c.args.f.header + c.min-rows.result ≡ rows_of_first c.args.f.sf = omega (arith, walk-range c.read_rows-p.ensures.0) in (
      p.0,
      omega (arith, walk-range c.read_rows-p.ensures.0),
      p.3,
      p.4,
      rw all at (first-marked _ _ _ p.0 c.first_block-b.ensures p.1 c.read_rows-p.ensures.0 least _ (omega arith) c.read_rows-p.ensures.1 (omega arith) c.mark.ensures),
    )

pub overflow_add-result : goal.overflow_add-result
unfolding remaining
overflow_add-result c =
    let fits = zero-fits c.args.f c.requires.0 c.first_block-b.ensures in omega (arith, walk-range c.read_later-rest.ensures.0)

pub overflow_add-result-2 : goal.overflow_add-result-2
unfolding remaining
overflow_add-result-2 c = omega (arith, walk-le c.read_rows-p.ensures.0, walk-le c.read_later-rest.ensures.0, walk-range c.read_later-rest.ensures.0)

pub returns : goal.returns
unfolding remaining
returns c =
    let p = c.requires in
    let fits = zero-fits c.args.f p.0 c.first_block-b.ensures in (
      data-on _ _ _ p.0 c.first_block-b.ensures p.1 c.read_rows-p.ensures.0 c.min-rows.ensures c.if-p-inside.false (omega arith) c.read_later-rest.ensures.0,
      λ h. c.read_later-rest.ensures.1 (omega arith),
    )
