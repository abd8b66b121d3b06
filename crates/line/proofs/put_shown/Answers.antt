-- `put_shown` writes the hyphen of an empty payload, the digits of any other.
-- Assumes nothing.
use native.Mathlib.Omega.{arith}
use Rattle.line.proofs.LineLaws.{shown-empty, shown-hex, hex-length}
use borrow.Author.Rules.{rules}
use Rattle.line.proofs.put_shown.Goals as goal

pub put_hex-requires : goal.put_hex-requires
put_hex-requires c = omega (arith, hex-length c.args.payload.now)

pub returns-then-is_empty : goal.returns-then-is_empty
returns-then-is_empty c =
    (rw (shown-empty c.args.payload.now (search rules)) c.put.ensures, search rules)

pub returns-else-is_empty : goal.returns-else-is_empty
returns-else-is_empty c =
    let payload = c.args.payload.now in
    (rw (shown-hex payload (search rules)) c.put_hex.ensures, omega (arith, hex-length payload))
