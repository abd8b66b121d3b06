-- `put_setting` writes the line of a setting.
-- Assumes nothing.
use Rattle.show.specs.Show.{setting_line}
use Rattle.put.proofs.Puts.{put_on}
use Rattle.show.proofs.put_setting.Goals as goal

pub returns : goal.returns
unfolding setting_line
returns c =
    put_on c.put_words-next.ensures c.put_three.ensures
