-- `put_frame` writes the line of a frame.
-- Assumes nothing.
use Rattle.show.specs.Show.{frame_line}
use Rattle.put.proofs.Puts.{put_on}
use Rattle.show.proofs.put_frame.Goals as goal

pub returns : goal.returns
unfolding frame_line
returns c =
    put_on c.put_words-after_word.ensures
    (put_on c.put_field-after_index.ensures.0
    (put_on c.put_field-after_cr.ensures.0
    (put_on c.put_field-after_flag.ensures.0
    (put_on c.put_field-after_repairs.ensures.0
    (put_on c.put_field-after_length.ensures.0
    c.put_payload.ensures)))))
