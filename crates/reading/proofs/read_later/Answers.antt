use Prim.Native.Nat.{ℕ, ◌≤◌, ◌+◌}
use mathlib.Core.Path.{◌≡◌}
use native.Mathlib.Omega.{arith}
use lib.ListN.{length}
use Rattle.layout.specs.Layout.{rows_of_first, first_block, later_blocks}
use Rattle.layout.specs.declared.Block.{Block}
use Rattle.layout.proofs.LayoutLaws.{later-le}
use Rattle.reading.proofs.LaterLaws.{placed, sofar-le, sofar-none, sofar-end, sofar-marked, sofar-more, sofar-stop, stop-early}
use Rattle.reading.proofs.HurtLaws.{flips-none}
use Rattle.reading.proofs.ReadLoop.{walk-range, walk-le}
use borrow.Author.Rules.{rules}
use Rattle.reading.proofs.read_later.Goals as goal

-- the rows of block 0
first_rows : (sf : ℕ) {B : Block} → B ≡ first_block sf → B.rows ≡ rows_of_first sf
unfolding first_block
first_rows sf e = rw e

pub overflow_add-blocks : goal.overflow_add-blocks
overflow_add-blocks c =
    let few = later-le c.args.f c.args.n c.requires.0 c.requires.2 in omega (arith, c.later_blocks-blocks.ensures)

pub loop-k-init : goal.loop-k-init
loop-k-init c = sofar-none _ _ _ _ c.requires.1 c.requires.4

pub block_at-b-requires : goal.block_at-b-requires
block_at-b-requires c =
    let few = later-le c.args.f c.args.n c.requires.0 c.requires.2 in (search rules, omega arith)

pub overflow_sub-n : goal.overflow_sub-n
overflow_sub-n c =
    let b = placed c.args.f c.args.n c.loop-k.k c.requires.0 c.requires.2 (omega arith) (omega arith) c.block_at-b.ensures in b.below

pub grid_of_block-g-requires : goal.grid_of_block-g-requires
grid_of_block-g-requires c =
    let b = placed c.args.f c.args.n c.loop-k.k c.requires.0 c.requires.2 (omega arith) (omega arith) c.block_at-b.ensures in
    (b.fits, omega (arith, b.within, c.requires.3))

pub read_rows-p-requires : goal.read_rows-p-requires
read_rows-p-requires c =
    let p = c.requires in
    let b = placed c.args.f c.args.n c.loop-k.k p.0 p.2 (omega arith) (omega arith) c.block_at-b.ensures in (
      record { low = b.fits.rate-low; high = b.fits.rate-high },
      omega (arith, b.fits.rows-high, c.min-rows.ensures),
      omega (arith, b.below, c.min-rows.ensures),
      flips-none _,
    )

pub mark-requires : goal.mark-requires
mark-requires c =
    let b = placed c.args.f c.args.n c.loop-k.k c.requires.0 c.requires.2 (omega arith) (omega arith) c.block_at-b.ensures in
    omega (arith, b.room)

pub overflow_add-repairs : goal.overflow_add-repairs
overflow_add-repairs c =
    let b = placed c.args.f c.args.n c.loop-k.k c.requires.0 c.requires.2 (omega arith) (omega arith) c.block_at-b.ensures in
    omega (arith, b.below, sofar-le c.loop-k.invariant, walk-le c.read_rows-p.ensures.0, c.min-rows.ensures)

pub overflow_sub-result : goal.overflow_sub-result
overflow_sub-result c =
    let b = placed c.args.f c.args.n c.loop-k.k c.requires.0 c.requires.2 (omega arith) (omega arith) c.block_at-b.ensures in
    omega (arith, b.behind, first_rows c.args.f.sf c.first_block-start.ensures)

pub overflow_add-result : goal.overflow_add-result
overflow_add-result c =
    let b = placed c.args.f c.args.n c.loop-k.k c.requires.0 c.requires.2 (omega arith) (omega arith) c.block_at-b.ensures in
    omega (arith, b.below, walk-range c.read_rows-p.ensures.0, c.min-rows.ensures)

pub returns-then-p-rows : goal.returns-then-p-rows
returns-then-p-rows c =
    let b = placed c.args.f c.args.n c.loop-k.k c.requires.0 c.requires.2 (omega arith) (omega arith) c.block_at-b.ensures in
    let start = first_rows c.args.f.sf c.first_block-start.ensures in
    let room : c.args.n ≤ length c.args.nibbles.now = omega arith in
    let early = stop-early b c.loop-k.invariant c.read_rows-p.ensures.0 c.grid_of_block-g.ensures c.min-rows.ensures room start c.if-p-rows.true in
    (sofar-stop b c.loop-k.invariant c.read_rows-p.ensures.0 c.grid_of_block-g.ensures c.min-rows.ensures room start c.if-p-rows.true, λ h. absurd (omega (arith, early)))

pub loop-k-preserved : goal.loop-k-preserved
loop-k-preserved c =
    let b = placed c.args.f c.args.n c.loop-k.k c.requires.0 c.requires.2 (omega arith) (omega arith) c.block_at-b.ensures in
    sofar-more b c.loop-k.invariant c.read_rows-p.ensures.0 c.grid_of_block-g.ensures c.min-rows.ensures (omega arith) c.read_rows-p.ensures.1 c.mark.ensures c.if-p-rows.false

pub overflow_sub-result-2 : goal.overflow_sub-result-2
overflow_sub-result-2 c = omega (arith, first_rows c.args.f.sf c.first_block-start.ensures)

pub returns : goal.returns
returns c =
    let last : c.loop-k.k ≡ later_blocks c.args.f c.args.n + 1 = omega (arith, c.later_blocks-blocks.ensures) in
    (sofar-end c.loop-k.invariant c.requires.0 last (first_rows c.args.f.sf c.first_block-start.ensures), λ h. sofar-marked c.loop-k.invariant c.requires.0 last)
