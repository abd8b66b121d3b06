-- `setting_at` reads SF and the flag, then looks for the pair among the settings before it.
-- Assumes nothing.
use mathlib.Core.Path.{refl, sym, ◌∙◌}
use Rattle.day.specs.Stages.{setting_seen}
use Rattle.day.proofs.ReaderLaws.{handed_on}
use Rattle.day.proofs.EntryLaws.{no-sf, no-low-rate, given-again, is-setting, among}
use Rattle.day.proofs.entries.setting_at.Goals as goal

pub returns-in_err-sf : goal.returns-in_err-sf
unfolding setting_seen
returns-in_err-sf c = handed_on _ _ _ c.from_residual.ensures.1 (no-sf _ _ _ c.in_err-sf.ensures.value)

pub returns-in_err-low : goal.returns-in_err-low
unfolding setting_seen
returns-in_err-low c = handed_on _ _ _ c.from_residual-in_err-low.ensures.1 (no-low-rate _ _ _ c.in_ok-sf.ensures.value c.in_err-low.ensures.value)

pub returns-then-is_given : goal.returns-then-is_given
unfolding setting_seen
returns-then-is_given c =
    let found = sym (among _ _ _ _ _ _ c.settings_before-before.ensures c.is_given.ensures) ∙ c.if-is_given.true in
    rw (given-again _ _ _ c.in_ok-sf.ensures.value c.in_ok-low.ensures.value found) refl

pub returns : goal.returns
unfolding setting_seen
returns c =
    let found = sym (among _ _ _ _ _ _ c.settings_before-before.ensures c.is_given.ensures) ∙ c.if-is_given.false in
    rw (is-setting _ _ _ c.in_ok-sf.ensures.value c.in_ok-low.ensures.value found) refl
