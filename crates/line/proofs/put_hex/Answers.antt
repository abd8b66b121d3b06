use native.Mathlib.Omega.{arith}
use lib.Seq.{take_all, length-take-le}
use lib.ListN.{take}
use mathlib.Core.List.{flat_map}
use Rattle.bits.proofs.Lists.{flat_map-more}
use Rattle.line.specs.Line.{hex_byte}
use Rattle.put.proofs.Puts.{put_on, put-none}
use Rattle.line.proofs.LineLaws.{hex-length}
use borrow.Author.Rules.{rules}
use Rattle.line.proofs.put_hex.Goals as goal

pub loop-b-init : goal.loop-b-init
unfolding flat_map
loop-b-init c = put-none _ _ (search rules)

pub put_byte-next-requires : goal.put_byte-next-requires
put_byte-next-requires c =
    let payload = c.args.payload.now in
    let i = c.loop-b.b-index in
    omega (arith, hex-length payload, hex-length (take i payload), length-take-le i payload (search rules))

pub loop-b-preserved : goal.loop-b-preserved
loop-b-preserved c =
    rw (← flat_map-more hex_byte c.args.payload.now c.loop-b.b-index 0 (search rules)) (put_on c.loop-b.invariant c.put_byte-next.ensures)
