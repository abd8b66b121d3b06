-- `put_line` writes words, a colon and the count.
-- Assumes nothing.
use native.Mathlib.Omega.{arith}
use Rattle.put.proofs.Puts.{put_on}
use Rattle.panel.specs.Panel.{panel_line}
use Rattle.panel.proofs.put_line.Goals as goal

pub returns : goal.returns
unfolding panel_line
returns c =
    let e = c.put_words-after_words.ensures in
    (put_on e (put_on c.put-after_colon.ensures (put_on c.put_field-after_count.ensures.0 c.put.ensures)), omega (arith, e.next, c.put-after_colon.ensures.next, c.put_field-after_count.ensures.1, c.put.ensures.next))
