use mathlib.Core.Path.{◌≡◌, refl}
use native.Mathlib.Omega.{arith}
use borrow.Author.Rules.{rules}
use Prim.Native.Nat.{◌-◌}
use Rattle.std.specs.Prelude.{Ok, Err}
use Rattle.day.proofs.ReaderLaws.{handed}
use Rattle.day.proofs.SectionLaws.{steps-more, steps-stop, steps-end}
use Rattle.day.proofs.sections.section.Goals as goal

pub returns-in_err-entries : goal.returns-in_err-entries
returns-in_err-entries g c = (Err c.in_err-entries.field-0.0, c.in_err-entries.ensures.value, handed _ c.from_residual.ensures.1)

pub loop-entry-init : goal.loop-entry-init
loop-entry-init g c =
    let z : c.in_ok-entries.entries - 0 ≡ c.in_ok-entries.entries = omega arith in
    (search rules, omega arith, λ r t. rw z at t)

pub returns-in_err-end : goal.returns-in_err-end
returns-in_err-end g c =
    let l = c.loop-entry in
    let all = steps-stop _ _ _ l.entry l.end l.invariant.2 c.in_err-end.field-0.0 c.loop-entry-test.true c.in_err-end.ensures in
    (Ok c.in_ok-entries.entries, c.in_ok-entries.ensures.value, (Err c.in_err-end.field-0.0, all, handed _ c.from_residual-in_err-end.ensures.1))

pub loop-entry-preserved : goal.loop-entry-preserved
loop-entry-preserved g c =
    let l = c.loop-entry in
    (search rules, omega arith, steps-more _ _ _ l.entry l.end l.invariant.2 _ c.loop-entry-test.true c.in_ok-end.ensures)

pub returns : goal.returns
returns g c =
    let l = c.loop-entry in
    let all = steps-end _ _ _ l.entry l.end l.invariant.2 c.loop-entry-test.false in
    (Ok c.in_ok-entries.entries, c.in_ok-entries.ensures.value, (Ok l.end, all, refl))
