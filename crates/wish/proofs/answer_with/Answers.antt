-- `answer_with` writes the line of each of code's two answers.
-- Assumes nothing.
use Prim.Native.Nat.{◌≤◌}
use mathlib.Core.Path.{sym, refl}
use lib.ListN.{length, take}
use lib.Seq.{length-take-le}
use Rattle.put.proofs.Puts.{put_all}
use borrow.Author.Rules.{rules}
use Rattle.wish.proofs.answer_with.Goals as goal
use Rattle.wish.proofs.answer_with.Goals.{In-Ok}

-- what was coded: its symbols fit the list, so that the part of the list is as long
fits : (c : In-Ok) → c.in-Ok.count ≤ 832
fits c = rw c.in-Ok.is at c.requires.0

long : (c : In-Ok) → length (take c.in-Ok.count c.args.symbols.now) ≤ 832
long c = let h = fits c in rw (length-take-le c.in-Ok.count c.args.symbols.now (search rules)) h

pub slice_bounds-put_frame-end : goal.slice_bounds-put_frame-end
slice_bounds-put_frame-end c = sym (length-take-le _ _ (let h = fits (goal.at.slice_bounds-put_frame-end c).In-Ok in search rules))

pub put_frame-requires : goal.put_frame-requires
put_frame-requires c = (long (goal.at.put_frame-requires c).In-Ok, search rules)

pub returns-in-Ok : goal.returns-in-Ok
returns-in-Ok c =
    let e = c.put_frame.ensures in
    let written = put_all e.0 in
    rw c.in-Ok.is (record { long = written.0; short = e.1; cells = written.1; is = refl })

pub returns-in-Err : goal.returns-in-Err
returns-in-Err c = rw c.in-Err.is c.decline.ensures
