-- `section` goes from entry to entry: where the steps that are left lead, all of them lead.
-- Assumes nothing.
use Prim.Native.Nat.{◌+◌, ◌-◌, ◌≤◌}
use Rattle.day.specs.Stages.{Steps}
use Rattle.day.proofs.sections.section.Given as goal

abbrev pub invariant-loop-entry : goal.invariant-loop-entry
invariant-loop-entry g l =
    goal.F-IsAlwaysCallable g l.step × (l.entry ≤ l.entries)
    × ((r : _) → Steps (λ x a. goal.F-post g l.step x a) (l.entries - l.entry) l.end r → Steps (λ x a. goal.F-post g l.step x a) l.entries (l.at + 1) r)
