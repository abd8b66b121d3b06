-- `frame_at` reads field after field, and then looks whether the payload is there.
-- Assumes nothing.
use mathlib.Core.Path.{◌≡◌, refl}
use Prim.Native.Nat.{◌+◌, ◌*◌}
use native.Mathlib.Omega.{arith}
use Rattle.day.specs.Stages.{frame_seen}
use Rattle.day.proofs.ReaderLaws.{handed_on}
use Rattle.day.proofs.EntryLaws.{no_index, no-cr, no_flag, no-low, no-high, no_length, no_payload, seen-frame}
use Rattle.day.proofs.entries.frame_at.Goals as goal

pub returns-in_err-setting : goal.returns-in_err-setting
unfolding frame_seen
returns-in_err-setting c = handed_on _ _ _ c.from_residual.ensures.1 (no_index _ _ _ c.in_err-setting.ensures.value)

pub returns-in_err-cr : goal.returns-in_err-cr
unfolding frame_seen
returns-in_err-cr c = handed_on _ _ _ c.from_residual-in_err-cr.ensures.1 (no-cr _ _ _ c.in_ok-setting.ensures.value c.in_err-cr.ensures.value)

pub returns-in_err-flag : goal.returns-in_err-flag
unfolding frame_seen
returns-in_err-flag c =
    handed_on _ _ _ c.from_residual-in_err-flag.ensures.1 (no_flag _ _ _ c.in_ok-setting.ensures.value c.in_ok-cr.ensures.value c.in_err-flag.ensures.value)

pub returns-in_err-low : goal.returns-in_err-low
unfolding frame_seen
returns-in_err-low c =
    handed_on _ _ _ c.from_residual-in_err-low.ensures.1 (no-low _ _ _ c.in_ok-setting.ensures.value c.in_ok-cr.ensures.value c.in_ok-flag.ensures.value c.in_err-low.ensures.value)

pub returns-in_err-high : goal.returns-in_err-high
unfolding frame_seen
returns-in_err-high c =
    handed_on _ _ _ c.from_residual-in_err-high.ensures.1
    (no-high _ _ _ c.in_ok-setting.ensures.value c.in_ok-cr.ensures.value c.in_ok-flag.ensures.value c.in_ok-low.ensures.value c.in_err-high.ensures.value)

pub returns-in_err-length : goal.returns-in_err-length
unfolding frame_seen
returns-in_err-length c =
    handed_on _ _ _ c.from_residual-in_err-length.ensures.1
    (no_length _ _ _ c.in_ok-setting.ensures.value c.in_ok-cr.ensures.value c.in_ok-flag.ensures.value c.in_ok-low.ensures.value c.in_ok-high.ensures.value c.in_err-length.ensures.value)

pub returns-then-bytes-start : goal.returns-then-bytes-start
unfolding frame_seen
returns-then-bytes-start c =
    rw (no_payload _ _ _ c.in_ok-setting.ensures.value c.in_ok-cr.ensures.value c.in_ok-flag.ensures.value c.in_ok-low.ensures.value c.in_ok-high.ensures.value c.in_ok-length.ensures.value
    (λ i. (c.type_inv.bytes i).fits) (omega (arith, c.in_ok-length.ensures.there)) (omega (arith, c.in_ok-length.ensures.there, c.if-bytes-start.true, c.from.ensures))) refl

pub returns : goal.returns
returns c =
    let two : c.from_le_bytes.result ≡ c.in_ok-low.low + 256 * c.in_ok-high.high = omega (arith, c.from_le_bytes.ensures) in
    rw (two, c.from-2.ensures)
    (seen-frame _ _ _ c.in_ok-setting.ensures.value c.in_ok-cr.ensures.value c.in_ok-flag.ensures.value c.in_ok-low.ensures.value c.in_ok-high.ensures.value c.in_ok-length.ensures.value
    (λ i. (c.type_inv.bytes i).fits) (omega (arith, c.in_ok-length.ensures.there)) (omega (arith, c.in_ok-length.ensures.there, c.if-bytes-start.false, c.from.ensures)))
