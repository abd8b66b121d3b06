-- `put_field` writes a space and a number, 21 bytes at most.
-- Assumes nothing.
use Prim.Native.Nat.{ℕ}
use native.Mathlib.Omega.{arith}
use Rattle.line.specs.Line.{field}
use Rattle.line.proofs.LineLaws.{decimal-length}
use Rattle.put.proofs.Puts.{put_on}
use Rattle.line.proofs.put_field.Goals.{After-put-next}
use Rattle.line.proofs.put_field.Goals as goal

-- the number, from the space that was put
abbrev number : After-put-next → ℕ
number c = c.args.n

pub put_decimal-requires : goal.put_decimal-requires
put_decimal-requires c = omega (arith, decimal-length (number c.before.before.before))

pub returns : goal.returns
unfolding field
returns c =
    (put_on c.put-next.ensures c.put_decimal.ensures, omega (arith, decimal-length (number c.before.before.before.before.before.before.before)))
