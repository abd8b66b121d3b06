-- `entry_at` takes the step of its section.
-- Assumes nothing.
use native.Mathlib.Omega.{arith}
use Rattle.day.proofs.StepLaws.{shown-start, shown-settings, shown-frames, shown-refused}
use Rattle.day.proofs.walking.entry_at.Goals as goal

pub returns-in-0 : goal.returns-in-0
returns-in-0 c = shown-start _ _ _ c.in-0.is c.at_start.ensures

pub returns-in-1 : goal.returns-in-1
returns-in-1 c = shown-settings _ _ _ c.in-1.is c.in_settings.ensures

pub returns-in-2 : goal.returns-in-2
returns-in-2 c = shown-frames _ _ _ c.in-2.is c.in_frames.ensures

pub returns-in_default : goal.returns-in_default
returns-in_default c = shown-refused _ _ _ (λ e. omega (arith, e)) (λ e. omega (arith, e)) (λ e. omega (arith, e)) c.in_refused.ensures
