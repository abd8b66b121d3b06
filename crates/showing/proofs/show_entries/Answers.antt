use mathlib.Core.Path.{sym}
use native.Mathlib.Omega.{arith}
use Rattle.showing.proofs.AlongLaws.{reached-none, reached-more, reached-over, on_ok}
use Rattle.showing.proofs.show_entries.Goals as goal

pub loop-init : goal.loop-init
loop-init c = (reached-none _ _ c.start-place.ensures, c.requires)

pub returns-then-over_at : goal.returns-then-over_at
returns-then-over_at c =
    on_ok _ (reached-over _ _ (reached-more c.loop.invariant.0 c.show_part-turn.ensures) (sym c.if-over_at.ensures))

pub loop-preserved : goal.loop-preserved
loop-preserved c = (reached-more c.loop.invariant.0 c.show_part-turn.ensures, omega arith)
