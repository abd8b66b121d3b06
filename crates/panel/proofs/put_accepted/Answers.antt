-- `put_accepted` writes the lines of what was heard and accepted.
-- Assumes nothing.
use native.Mathlib.Omega.{arith}
use Rattle.put.proofs.Puts.{put_on}
use Rattle.panel.specs.Panel.{accepted_lines}
use Rattle.panel.proofs.put_accepted.Goals as goal

pub returns : goal.returns
unfolding accepted_lines
returns c = (
  put_on c.put_line-after_heard.ensures.0
      (put_on c.put_line-after_clean.ensures.0
      c.put_line.ensures.0),
  omega (arith, c.put_line-after_heard.ensures.1, c.put_line-after_clean.ensures.1, c.put_line.ensures.1),
)
