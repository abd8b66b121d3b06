-- The eight bytes of the number, placed as they are.
use native.Mathlib.Omega.{arith}
use mathlib.Core.Path.{◌≡◌, ◌∙◌}
use Prim.Native.Nat.{ℕ, ◌/◌}
use Rattle.std.specs.Int.{w64, to_le_bytes}
use Rattle.bits.proofs.Parts.{part_is}
use Rattle.bits.specs.Bytes.{byte_at}
use Rattle.bits.specs.Tab.{tab}
use Rattle.reading.specs.Stages.{bytes_of}
use Rattle.reading.proofs.mark.Goals as goal

-- each byte is divided out at once
bytes_listed : (n : ℕ) → to_le_bytes w64 n ≡ tab 8 (bytes_of n)
unfolding tab bytes_of byte_at
bytes_listed n =
    let two : n / 65536 ≡ n / 256 / 256 = omega arith in
    let three : n / 16777216 ≡ n / 256 / 256 / 256 = omega arith in
    let four : n / 4294967296 ≡ n / 256 / 256 / 256 / 256 = omega arith in
    let five : n / 1099511627776 ≡ n / 256 / 256 / 256 / 256 / 256 = omega arith in
    let six : n / 281474976710656 ≡ n / 256 / 256 / 256 / 256 / 256 / 256 = omega arith in
    let seven : n / 72057594037927936 ≡ n / 256 / 256 / 256 / 256 / 256 / 256 / 256 = omega arith in
    rw (two, three, four, five, six, seven)

pub returns : goal.returns
returns c = part_is _ c.args.at 8 c.args.hurts.now (c.copy_from_slice.ensures.after ∙ c.to_le_bytes.ensures ∙ bytes_listed c.args.flips)
