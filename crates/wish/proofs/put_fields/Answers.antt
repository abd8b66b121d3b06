use native.Mathlib.Omega.{arith}
use mathlib.Core.List.{flat_map}
use Rattle.bits.proofs.Lists.{flat_map-more}
use Rattle.line.specs.Line.{field}
use Rattle.put.proofs.Puts.{put_on, put-none}
use borrow.Author.Rules.{rules}
use Rattle.wish.proofs.put_fields.Goals as goal

pub loop-symbol-init : goal.loop-symbol-init
unfolding flat_map
loop-symbol-init c = (omega arith, put-none _ _ (search rules))

pub loop-symbol-preserved : goal.loop-symbol-preserved
loop-symbol-preserved c = (
  search rules,
  rw (← flat_map-more field c.args.symbols.now c.loop-symbol.symbol-index 0 (search rules), ← c.from.ensures) (put_on c.loop-symbol.invariant.1 c.put_field-next.ensures.0),
)
