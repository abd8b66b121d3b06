-- The two halves of a byte, the low one first.
use native.Mathlib.Omega.{arith}
use Rattle.coding.proofs.NibbleLaws.{two-nibbles}
use Rattle.coding.proofs.put_byte.Goals as goal

pub returns : goal.returns
returns c = two-nibbles c.args.byte c.args.at _ (omega arith)
