use mathlib.Core.Path.{refl, ◌∙◌}
use mathlib.Core.Bool.{false}
use mathlib.Core.List.{[]}
use Prim.Native.Nat.{◌<◌}
use native.Mathlib.Omega.{arith}
use lib.ListN.{length}
use Rattle.bits.specs.Tab.{blank}
use Rattle.bits.proofs.Tabs.{length-blank}
use Rattle.bits.proofs.Fill.{filled_none, filled_more, filled-end, filled-rest}
use Rattle.coding.proofs.CodingLoop.{row_read, row-blank, grid-laid}
use Rattle.coding.proofs.grid_of_block.Goals as goal
use Rattle.coding.proofs.grid_of_block.Goals.{then-i-n, else-i-n}

pub loop-i-init : goal.loop-i-init
unfolding blank
loop-i-init c = filled_none _ _

pub loop-i-preserved : goal.loop-i-preserved
loop-i-preserved c =
    let l = c.loop-i in
    let room : l.i < length (blank 12 (blank 8 false)) = omega (arith, length-blank 12 (blank 8 false)) in
    elim c.if-i-n.branch [
      | then-i-n w ↦
          let nibble : w.from-then-i-n.result < 16 = rw w.from-then-i-n.ensures (search c.requires.3) in
          rw w.row-items-is (filled_more l.invariant room (row_read _ c.args.b.codeword c.args.b.rows _ l.i c.requires.2 w.if-i-n.true w.from-then-i-n.ensures
          (omega (arith, c.from.ensures, nibble))))
      | else-i-n w ↦ rw w.row-items-is (filled_more l.invariant room (filled-rest [] l.invariant ∙ row-blank _ c.args.b.codeword c.args.b.rows _ l.i w.if-i-n.false (omega arith)))
    ]

pub returns : goal.returns
returns c = grid-laid c.args.b _ c.requires.0 c.requires.3 (omega arith) refl refl (filled-end c.loop-i.invariant (omega arith))
