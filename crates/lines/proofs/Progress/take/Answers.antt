-- `take` ends with the chunk, or where another line might not fit.
-- Assumes nothing.
use native.Mathlib.Omega.{arith}
use Rattle.lines.proofs.StreamLaws.{went-none, went_on}
use Rattle.lines.proofs.Progress.take.Goals as goal

pub loop-step-init : goal.loop-step-init
loop-step-init c =
    let e = c.take_piece-step.ensures.0 in
    (went-none _ _ _ _ _ e.within (omega (arith, e.put.next, e.put.within, e.put.long)), omega (arith, e.put.long, c.requires))

pub loop-step-preserved : goal.loop-step-preserved
loop-step-preserved c =
    let e = c.take_piece-step-in-loop-step.ensures in
    let i = c.loop-step.invariant in
    (went_on i.0 e.0, omega (arith, e.0.put.long, i.1))

-- no room for another line, or the chunk is taken
pub returns-else-step-last : goal.returns-else-step-last
returns-else-step-last c =
    let e = c.take_piece-step.ensures in
    let i = c.loop-step.invariant in
    (went_on e.0 i.0, omega (arith, e.1, i.0.forth))

pub returns-after-loop-step : goal.returns-after-loop-step
returns-after-loop-step c =
    let e = c.take_piece-step.ensures in
    let i = c.loop-step.invariant in
    (went_on e.0 i.0, omega (arith, e.1, i.0.forth))
