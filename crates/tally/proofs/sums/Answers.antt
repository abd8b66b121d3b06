-- A cell more, or the first sum that passes 32 bits.
use Rattle.std.proofs.Common.{refl, arith, rules}
use borrow.Author.Tests.{lt-leb, le-leb}
use Rattle.bits.proofs.Fill.{filled_none, filled_more, filled-whole, filled-rest}
use Rattle.tally.proofs.RoomLaws.{rooms-no, rooms-on, rooms-yes}
use Rattle.tally.specs.Tally.{sum_at, most}
use Rattle.tally.proofs.sums.Goals as goal

pub loop-i-init : goal.loop-i-init
loop-i-init c = record { filled = filled_none _ _; so_far = refl }

pub returns-in_err-c : goal.returns-in_err-c
unfolding sum_at
returns-in_err-c c =
    let l = c.loop-i in
    rw (c.from_residual.ensures, ← rooms-no _ l.i l.invariant.so_far (omega arith) (lt-leb _ most (omega (arith, c.in_err-c.ensures, filled-rest 0 l.invariant.filled))))

pub loop-i-preserved : goal.loop-i-preserved
unfolding sum_at
loop-i-preserved c =
    let l = c.loop-i in
    record {
      filled = filled_more l.invariant.filled (omega arith) (omega (arith, c.in_ok-c.ensures, filled-rest 0 l.invariant.filled));
      so_far = rooms-on _ l.i l.invariant.so_far (omega arith) (le-leb _ most (omega (arith, c.in_ok-c.ensures, filled-rest 0 l.invariant.filled)));
    }

pub returns : goal.returns
returns c =
    let l = c.loop-i in
    rw (← rooms-yes _ l.i l.invariant.so_far (omega arith), filled-whole 13 l.invariant.filled (omega arith) (search rules))
