-- `put_kept` writes the line of a run that kept its file.
-- Assumes nothing.
use Rattle.put.proofs.Puts.{put_on}
use Rattle.keep.specs.Lines.{kept_line}
use Rattle.keep.proofs.telling.put_kept.Goals as goal

pub returns : goal.returns
unfolding kept_line
returns c =
    put_on c.put_words-after_kept.ensures
    (put_on c.put_field-after_frames.ensures.0
    (put_on c.put_field-after_repaired.ensures.0
    (put_on c.put_field-after_refused.ensures.0
    (put_on c.put_field-after_told.ensures.0
    c.put.ensures))))
