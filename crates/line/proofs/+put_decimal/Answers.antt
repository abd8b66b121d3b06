-- `put_decimal` writes the digits of a number: the last one behind those of the tenth.
-- Assumes nothing.
use native.Mathlib.Omega.{arith}
use Rattle.line.proofs.LineLaws.{decimal-one, decimal-more, decimal-one-length, decimal-more-length}
use Rattle.put.proofs.Puts.{put_on}
use borrow.Author.Rules.{rules}
use Rattle.line.proofs.+put_decimal.Goals as goal

pub put-requires : goal.put-requires
put-requires t c = omega (arith, c.requires, decimal-one-length c.args.n c.if-n-lt10.true)

pub put_decimal-next-requires : goal.put_decimal-next-requires
put_decimal-next-requires t c =
    (omega arith, omega (arith, c.requires, decimal-more-length c.args.n c.if-n-lt10.false (search rules)))

pub put-requires-else-n-lt10 : goal.put-requires-else-n-lt10
put-requires-else-n-lt10 t c = omega (arith, c.requires, c.put_decimal-next.ensures.next, c.put_decimal-next.auto.out, decimal-more-length c.args.n c.if-n-lt10.false (search rules))

pub returns-then-n-lt10 : goal.returns-then-n-lt10
returns-then-n-lt10 t c = rw (decimal-one c.args.n c.if-n-lt10.true, ← c.decimal_digit.ensures) c.put.ensures

pub returns-else-n-lt10 : goal.returns-else-n-lt10
returns-else-n-lt10 t c =
    rw (decimal-more c.args.n c.if-n-lt10.false (search rules), ← c.decimal_digit-else-n-lt10.ensures)
    (put_on c.put_decimal-next.ensures c.put-else-n-lt10.ensures)
