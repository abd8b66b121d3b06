-- `put_end` writes the panel of a run that only counts.
-- Assumes nothing.
use mathlib.Core.Path.{sym, ◌∙◌}
use Rattle.put.proofs.Puts.{put-none}
use Rattle.lines.proofs.StreamLaws.{end-panel, end_none}
use borrow.Author.Rules.{rules}
use Rattle.lines.proofs.Progress.put_end.Goals as goal

pub returns-then-is_tally : goal.returns-then-is_tally
returns-then-is_tally c =
    rw (end-panel c.args.self.now.piece c.args.self.now.counts (sym c.is_tally.ensures ∙ c.if-is_tally.true)) c.put_panel.ensures

pub returns-else-is_tally : goal.returns-else-is_tally
returns-else-is_tally c =
    rw (end_none c.args.self.now.piece c.args.self.now.counts (sym c.is_tally.ensures ∙ c.if-is_tally.false)) (put-none c.args.used c.args.out.now (search rules))
