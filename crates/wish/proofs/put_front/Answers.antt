-- `put_front` writes nothing, or the mark and the agreed values: one byte, three fields and a space.
-- Assumes nothing.
use mathlib.Core.Path.{◌≡◌}
use Rattle.bits.specs.Bit.{as_bit}
use Rattle.put.proofs.Puts.{put-none, put_on}
use Rattle.wish.proofs.AnswerLaws.{front-line}
use borrow.Author.Rules.{rules}
use Rattle.wish.proofs.put_front.Goals as goal

pub returns-in-Explicit : goal.returns-in-Explicit
returns-in-Explicit c = rw c.in-Explicit.is (put-none _ _ (search rules), search rules)

pub returns-in-Agreed : goal.returns-in-Agreed
returns-in-Agreed c =
    let flag : c.from-in-Agreed.result ≡ as_bit c.in-Agreed.checked = search rules in (
      rw (front-line c.in-Agreed.is c.from.ensures flag)
          (put_on c.put-after_mark.ensures (put_on c.put_field-after_length.ensures.0 (put_on c.put_field-after_cr.ensures.0 (put_on c.put_field-after_flag.ensures.0 c.put.ensures)))),
      search rules,
    )
