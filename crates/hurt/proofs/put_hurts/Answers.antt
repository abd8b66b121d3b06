use Rattle.put.proofs.Puts.{put_on, put-none}
use Rattle.hurt.specs.Hurt.{entries_from}
use Rattle.hurt.proofs.EntryLaws.{entries-more}
use borrow.Author.Rules.{rules}
use Rattle.hurt.proofs.put_hurts.Goals as goal

pub loop-i-init : goal.loop-i-init
unfolding entries_from
loop-i-init c = (search rules, put-none _ _ (search rules))

pub loop-i-preserved : goal.loop-i-preserved
loop-i-preserved c = (
  search rules,
  rw (← entries-more c.args.hurts.now c.loop-i.i (search rules)) (put_on c.loop-i.invariant.1 c.put_entry-next.ensures.0),
)
