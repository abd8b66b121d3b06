use native.Mathlib.Omega.{arith}
use Rattle.bits.proofs.Fill.{filled_at-none, filled_at-end}
use Rattle.coding.proofs.NibbleLaws.{byte_more}
use Rattle.coding.proofs.put_bytes.Goals as goal

pub loop-p-init : goal.loop-p-init
loop-p-init c = filled_at-none _ _ _ (omega arith)

pub loop-p-preserved : goal.loop-p-preserved
loop-p-preserved c = byte_more _ _ c.loop-p.p (omega arith) c.loop-p.invariant c.put_byte.ensures

pub returns : goal.returns
returns c = filled_at-end c.loop-p.invariant (omega arith)
