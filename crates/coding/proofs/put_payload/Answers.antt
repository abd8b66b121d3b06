-- The payload is copied, whitened and put: three calls, one law.
use native.Mathlib.Omega.{arith}
use Rattle.bits.specs.Tab.{blank}
use Rattle.bits.proofs.Parts.{front_copied}
use Rattle.coding.proofs.NibbleLaws.{payload-put}
use Rattle.coding.proofs.put_payload.Goals as goal

pub returns : goal.returns
unfolding blank
returns c =
    let a = c.args in
    payload-put a.payload.now a.at a.nibbles.now (blank 255 0) (front_copied 0 (blank 255 0) c.copy_from_slice.ensures.after) c.whiten.ensures (omega arith) c.put_bytes.ensures
