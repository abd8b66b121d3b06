-- `refused_at` reads field after field.
-- Assumes nothing.
use mathlib.Core.Path.{◌≡◌, refl}
use Prim.Native.Nat.{◌+◌, ◌*◌}
use native.Mathlib.Omega.{arith}
use Rattle.day.specs.Stages.{refused_seen}
use Rattle.day.proofs.ReaderLaws.{handed_on}
use Rattle.day.proofs.EntryLaws.{no-setting, no_number, no-place-low, no-place-high, is-refused}
use Rattle.day.proofs.entries.refused_at.Goals as goal

pub returns-in_err-setting : goal.returns-in_err-setting
unfolding refused_seen
returns-in_err-setting c = handed_on _ _ _ c.from_residual.ensures.1 (no-setting _ _ _ c.in_err-setting.ensures.value)

pub returns-in_err-number : goal.returns-in_err-number
unfolding refused_seen
returns-in_err-number c = handed_on _ _ _ c.from_residual-in_err-number.ensures.1 (no_number _ _ _ c.in_ok-setting.ensures.value c.in_err-number.ensures.value)

pub returns-in_err-low : goal.returns-in_err-low
unfolding refused_seen
returns-in_err-low c =
    handed_on _ _ _ c.from_residual-in_err-low.ensures.1 (no-place-low _ _ _ c.in_ok-setting.ensures.value c.in_ok-number.ensures.value c.in_err-low.ensures.value)

pub returns-in_err-high : goal.returns-in_err-high
unfolding refused_seen
returns-in_err-high c =
    handed_on _ _ _ c.from_residual-in_err-high.ensures.1
    (no-place-high _ _ _ c.in_ok-setting.ensures.value c.in_ok-number.ensures.value c.in_ok-low.ensures.value c.in_err-high.ensures.value)

pub returns : goal.returns
unfolding refused_seen
returns c =
    let two : c.from_le_bytes.result ≡ c.in_ok-low.low + 256 * c.in_ok-high.high = omega (arith, c.from_le_bytes.ensures) in
    rw (two, is-refused _ _ _ c.in_ok-setting.ensures.value c.in_ok-number.ensures.value c.in_ok-low.ensures.value c.in_ok-high.ensures.value) refl
