-- `closing` writes the line that ends a good run.
-- Assumes nothing.
use Rattle.put.proofs.Puts.{put_on}
use Rattle.panel.specs.Counts.{closing_line}
use Rattle.panel.proofs.closing.Goals as goal

pub returns : goal.returns
unfolding closing_line
returns c =
    rw (← c.clean_in.ensures, ← c.refused_in.ensures)
    (put_on c.put_end-after_end.ensures.0
    (put_on c.put_field-after_texts.ensures.0
    (put_on c.put_field-after_clean.ensures.0
    (put_on c.put_field-after_repaired.ensures.0
    (put_on c.put_field-after_refused.ensures.0
    c.put.ensures)))))
