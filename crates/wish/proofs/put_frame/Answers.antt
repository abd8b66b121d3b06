-- `put_frame` writes the front, SF, the low rate, the symbols and the line's end.
-- Assumes nothing.
use mathlib.Core.Path.{◌≡◌}
use native.Mathlib.Omega.{arith}
use Rattle.bits.specs.Bit.{as_bit}
use Rattle.line.proofs.LineLaws.{decimal-length}
use Rattle.put.proofs.Puts.{put_on}
use Rattle.wish.proofs.AnswerLaws.{frame-line}
use borrow.Author.Rules.{rules}
use Rattle.wish.proofs.put_frame.Goals as goal

pub put_decimal-after_sf-requires : goal.put_decimal-after_sf-requires
put_decimal-after_sf-requires c = omega (arith, decimal-length c.from.result, c.put_front-after_front.ensures.1)

pub put_field-after_low-requires : goal.put_field-after_low-requires
put_field-after_low-requires c =
    omega (arith, decimal-length c.from.result, c.put_front-after_front.ensures.1)

pub put_fields-after_symbols-requires : goal.put_fields-after_symbols-requires
put_fields-after_symbols-requires c =
    omega (arith, decimal-length c.from.result, c.put_front-after_front.ensures.1)

pub put-requires : goal.put-requires
put-requires c =
    omega (arith, decimal-length c.from.result, c.put_front-after_front.ensures.1)

pub returns : goal.returns
returns c =
    let a = c.args in
    let low : c.from-2.result ≡ as_bit a.s.low = search rules in (
      rw (frame-line a.s a.symbols.now c.from.ensures low)
          (put_on c.put_front-after_front.ensures.0 (put_on c.put_decimal-after_sf.ensures (put_on c.put_field-after_low.ensures.0 (put_on c.put_fields-after_symbols.ensures.0 c.put.ensures)))),
      omega (arith, decimal-length c.from.result, c.put_front-after_front.ensures.1),
    )
