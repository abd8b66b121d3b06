use native.Mathlib.Omega.{arith}
use mathlib.Core.Path.{◌∙◌}
use Prim.Native.Nat.{ℕ}
use Rattle.std.proofs.lemmas.List.{length-take-le}
use Rattle.bits.specs.Tab.{blank}
use Rattle.bits.proofs.Fill.{filled_none, filled_more, filled-end}
use Rattle.bits.proofs.Parts.{front-filled}
use Rattle.reading.proofs.ReadingLaws.{whitened-payload}
use Rattle.reading.proofs.payload_of_nibbles.Goals as goal

pub loop-p-init : goal.loop-p-init
loop-p-init c = filled_none _ _

pub loop-p-preserved : goal.loop-p-preserved
loop-p-preserved c = filled_more c.loop-p.invariant (omega arith) c.byte_of_nibbles.ensures

pub returns : goal.returns
unfolding blank
returns c = c.whiten.ensures ∙ whitened-payload _ _ _ _ (filled-end (front-filled _ _ c.loop-p.invariant) (omega (arith, length-take-le {A = ℕ} c.args.len (blank 255 0) (omega arith))))
