use mathlib.Core.Path.{◌≡◌, refl}
use Prim.Native.Nat.{ℕ, ◌≤◌}
use native.Mathlib.Omega.{arith}
use lib.ListN.{length}
use Rattle.bits.specs.Tab.{blank}
use Rattle.layout.specs.declared.Frame.{Frame}
use Rattle.layout.specs.Layout.{later_blocks, nibbles_of}
use Rattle.layout.specs.Ranges.{Valid}
use Rattle.layout.proofs.LayoutLaws.{later-le, nibbles-le, block-fits}
use Rattle.coding.proofs.CodingLoop.{frame-start, block-low, block_room, frame-more, frame-end}
use Rattle.coding.proofs.NibbleLaws.{laid-nibbles, laid-small}
use Rattle.coding.proofs.write_frame.Goals as goal

-- a frame has at most 519 nibbles, and at most 103 blocks follow the first
few : {count blocks : ℕ} (F : Frame) (len : ℕ) → Valid F → len ≤ 255 → count ≡ nibbles_of F len → blocks ≡ later_blocks F count
    → (count ≤ 519) × (blocks ≡ later_blocks F (nibbles_of F len)) × (blocks ≤ 103)
few F len v short c b =
    let most = nibbles-le F len v short in
    (rw c most, rw c at b, rw (b, c) (later-le F _ v most))

pub later_blocks-blocks-requires : goal.later_blocks-blocks-requires
later_blocks-blocks-requires c = (c.requires.0, rw c.nibbles_of-count.ensures (nibbles-le _ _ c.requires.0 c.requires.1.short))

pub overflow_add-blocks : goal.overflow_add-blocks
overflow_add-blocks c =
    omega (arith, few c.args.f (length c.args.payload.now) c.requires.0 c.requires.1.short c.nibbles_of-count.ensures c.later_blocks-blocks.ensures)

pub put_frame-requires : goal.put_frame-requires
unfolding blank
put_frame-requires c = (omega (arith, c.requires.1.long, c.requires.0.header-high), c.requires.1.short, refl)

pub loop-k-init : goal.loop-k-init
loop-k-init c = frame-start _ c.requires.0 (length c.args.payload.now) _ _

pub block_at-b-requires : goal.block_at-b-requires
block_at-b-requires c =
    (c.requires.0, omega (arith, few c.args.f (length c.args.payload.now) c.requires.0 c.requires.1.short c.nibbles_of-count.ensures c.later_blocks-blocks.ensures))

pub grid_of_block-requires : goal.grid_of_block-requires
unfolding blank
grid_of_block-requires c =
    let a = c.args in
    let count = few a.f (length a.payload.now) c.requires.0 c.requires.1.short c.nibbles_of-count.ensures c.later_blocks-blocks.ensures in (
      rw c.block_at-b.ensures (block-fits _ _ c.requires.0 (omega arith)),
      block-low _ c.requires.0 _ c.loop-k.k c.block_at-b.ensures (omega arith) c.requires.1.short,
      c.rows-rows.ensures,
      laid-small _ _ _ _ c.requires.1 (omega (arith, c.requires.1.long, c.requires.0.header-high)) (λ i. omega (arith, c.type_inv.payload i)) (omega arith) c.put_frame.ensures,
    )

pub write_block-requires : goal.write_block-requires
write_block-requires c =
    let a = c.args in
    let count = few a.f (length a.payload.now) c.requires.0 c.requires.1.short c.nibbles_of-count.ensures c.later_blocks-blocks.ensures in (
      rw c.block_at-b.ensures (block-fits _ _ c.requires.0 (omega arith)),
      omega (arith, block_room a.f c.requires.0 (length a.payload.now) c.loop-k.k c.block_at-b.ensures (omega arith)),
    )

pub loop-k-preserved : goal.loop-k-preserved
loop-k-preserved c =
    let a = c.args in
    let count = few a.f (length a.payload.now) c.requires.0 c.requires.1.short c.nibbles_of-count.ensures c.later_blocks-blocks.ensures in
    frame-more _ c.requires.0 _ _ c.loop-k.k (omega arith) c.requires.2 c.block_at-b.ensures c.grid_of_block.ensures c.loop-k.invariant c.write_block.ensures

pub returns : goal.returns
unfolding blank
returns c =
    let a = c.args in
    let count = few a.f (length a.payload.now) c.requires.0 c.requires.1.short c.nibbles_of-count.ensures c.later_blocks-blocks.ensures in
    let laid = laid-nibbles _ _ _ _ (omega (arith, c.requires.1.long, c.requires.0.header-high)) c.requires.1.short c.put_frame.ensures in
    frame-end _ c.requires.0 _ _ c.loop-k.k laid c.loop-k.invariant (omega arith)
