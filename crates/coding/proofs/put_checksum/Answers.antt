-- The low byte and the high byte, one behind the other.
use native.Mathlib.Omega.{arith}
use Rattle.coding.proofs.NibbleLaws.{checksum-put}
use Rattle.coding.proofs.put_checksum.Goals as goal

pub put_bytes-requires : goal.put_bytes-requires
put_bytes-requires c = rw c.to_le_bytes.ensures c.requires

pub returns : goal.returns
returns c = checksum-put c.args.checksum c.args.at _ (omega arith) c.to_le_bytes.ensures c.put_bytes.ensures
