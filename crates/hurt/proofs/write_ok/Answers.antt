-- `write_ok` writes the word, the entries and the line's end.
-- Assumes nothing.
use Rattle.put.proofs.Puts.{put_on}
use Rattle.hurt.specs.Hurt.{ok_line}
use borrow.Author.Rules.{rules}
use Rattle.hurt.proofs.write_ok.Goals as goal

pub returns : goal.returns
unfolding ok_line
returns c =
    (put_on c.put_words-after_ok.ensures (put_on c.put_hurts-after_hurts.ensures.0 c.put.ensures), search rules)
