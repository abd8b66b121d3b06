-- Header, payload and checksum are laid out one behind the other, and what lies behind them is fillers already.
use Prim.Native.Nat.{◌+◌, ◌*◌, ◌≤◌}
use native.Mathlib.Omega.{arith}
use lib.ListN.{length}
use Rattle.bits.proofs.Parts.{front_copied}
use Rattle.coding.proofs.NibbleLaws.{header-laid, payload-laid, checksum-laid, bare-laid, fillers-laid}
use Rattle.coding.proofs.put_frame.Goals as goal

pub returns-then-checked : goal.returns-then-checked
returns-then-checked c =
    let a = c.args in
    let room : length a.header.now + 2 * length a.payload.now + 4 ≤ length a.nibbles.now = omega arith in
    let headed = header-laid _ _ _ _ _ (omega arith) (front_copied 0 _ c.copy_from_slice.ensures.after) in
    let laid = payload-laid _ _ _ _ (omega arith) headed c.put_payload.ensures in
    fillers-laid _ _ _ _ _ c.requires.2 c.requires.0 c.requires.1
    (checksum-laid _ _ _ _ c.if-checked.true room laid c.put_checksum.ensures)

pub returns-else-checked : goal.returns-else-checked
returns-else-checked c =
    let headed = header-laid _ _ _ _ _ (omega arith) (front_copied 0 _ c.copy_from_slice.ensures.after) in
    let laid = payload-laid _ _ _ _ (omega arith) headed c.put_payload.ensures in
    fillers-laid _ _ _ _ _ c.requires.2 c.requires.0 c.requires.1 (bare-laid _ _ _ _ c.if-checked.false laid)
