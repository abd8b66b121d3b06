-- `put_here` puts the line of the entry that it sees, with its payload.
-- Assumes nothing.
use Rattle.day.specs.Day.{kind1}
use Rattle.day.proofs.WalkLaws.{shown-short}
use Rattle.showing.specs.Along.{line_at}
use borrow.Author.Rules.{rules}
use Rattle.showing.proofs.put_here.Goals as goal

pub put_entry-requires : goal.put_entry-requires
put_entry-requires c =
    let a = c.args in
    (search rules, rw c.part-payload.ensures (shown-short kind1 a.bytes.now a.place))

pub returns : goal.returns
unfolding line_at
returns c =
    rw (← c.part-payload.ensures, ← c.seen-entry.ensures) c.put_entry.ensures
