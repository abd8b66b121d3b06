-- `write_line` writes the line of each of the two answers.
-- Assumes nothing.
use mathlib.Core.Path.{◌≡◌}
use native.Mathlib.Omega.{arith}
use Rattle.bits.specs.Bit.{as_bit}
use Rattle.line.proofs.LineLaws.{payload-line, refused-line}
use Rattle.put.proofs.Puts.{put_on, put_all}
use borrow.Author.Rules.{rules}
use Rattle.line.proofs.write_line.Goals as goal

pub put_payload-requires : goal.put_payload-requires
put_payload-requires c = omega (arith, c.put_field-after_length.ensures.0, c.put_field-after_length.ensures.1, c.put_words-after_ok.ensures, c.requires)

pub returns-in-Ok : goal.returns-in-Ok
returns-in-Ok c =
    let flag : c.from-in-Ok.result ≡ as_bit c.in-Ok.a.checked = search rules in
    rw (payload-line c.args.payload.now c.in-Ok.is c.from.ensures flag)
    (put_all
    (put_on c.put_words-after_ok.ensures
    (put_on c.put_field-after_length.ensures.0
    (put_on c.put_field-after_cr.ensures.0
    (put_on c.put_field-after_flag.ensures.0
    (put_on c.put_field-after_symbols.ensures.0
    (put_on c.put_field-after_repairs.ensures.0
    c.put_payload.ensures)))))))

pub returns-in-Err : goal.returns-in-Err
returns-in-Err c =
    rw (refused-line c.args.payload.now c.in-Err.is c.from-in-Err.ensures)
    (put_all
    (put_on c.put_words-after_no.ensures
    (put_on c.put_field-after_number.ensures.0
    (put_on c.put_field-after_place.ensures.0
    c.put.ensures))))
