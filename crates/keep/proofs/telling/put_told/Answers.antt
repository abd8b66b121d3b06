-- `put_told` writes the line of a text that the file can't hold.
-- Assumes nothing.
use Rattle.line.specs.Line.{line_of}
use Rattle.put.proofs.Puts.{put_on}
use Rattle.keep.specs.Lines.{told_line}
use Rattle.keep.proofs.telling.put_told.Goals as goal

pub returns : goal.returns
unfolding told_line line_of
returns c =
    rw (← c.from.ensures)
    (put_on c.put_words-after_line.ensures
    (put_on c.put_field-after_count.ensures.0
    (put_on c.put_words-after_no.ensures
    (put_on c.put_field-after_number.ensures.0
    (put_on c.put_field-after_place.ensures.0
    c.put.ensures)))))
