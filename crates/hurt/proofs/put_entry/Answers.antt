-- `put_entry` writes nothing for a count of 0, and else a field, a colon and a number: at most four bytes, one and three.
-- Assumes nothing.
use native.Mathlib.Omega.{arith}
use Rattle.put.proofs.Puts.{put-none, put_on}
use Rattle.hurt.proofs.EntryLaws.{decimal-short, field-short, entry-none, entry-some}
use borrow.Author.Rules.{rules}
use Rattle.hurt.proofs.put_entry.Goals as goal

pub returns-then-count-eq0 : goal.returns-then-count-eq0
returns-then-count-eq0 c =
    let a = c.args in
    (rw (entry-none a.symbol a.count c.if-count-eq0.true) (put-none _ _ (search rules)), search rules)

pub put-after_colon-requires : goal.put-after_colon-requires
put-after_colon-requires c = omega (arith, field-short c.args.symbol c.requires.0)

pub put_decimal-requires : goal.put_decimal-requires
put_decimal-requires c =
    omega (arith, field-short c.args.symbol c.requires.0, decimal-short c.from.result (search rules))

pub returns : goal.returns
returns c = (
  rw (entry-some c.args.symbol c.args.count c.if-count-eq0.false c.from.ensures)
      (put_on c.put_field-after_symbol.ensures.0 (put_on c.put-after_colon.ensures c.put_decimal.ensures)),
  omega (arith, field-short c.args.symbol c.requires.0, decimal-short c.from.result (search rules)),
)
