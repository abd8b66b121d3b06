-- `good` makes its tests one by one; the first that fails decides, and the last one's answer is the answer.
-- Assumes nothing.
use mathlib.Core.Path.{◌∙◌}
use native.Mathlib.Omega.{arith}
use Rattle.day_write.proofs.JudgingLaws.{fails, holds, few-most, settings-many, frames-many, refused-many, lengths-off, settings-bad, frames-bad, all-good}
use Rattle.day_write.proofs.judging.good.Goals as goal

pub returns-then-not-few_rows : goal.returns-then-not-few_rows
returns-then-not-few_rows c = settings-many _ _ _ _ (fails c.few_rows.ensures c.if-not-few_rows.true-raw)

pub returns-then-not-few_rows-2 : goal.returns-then-not-few_rows-2
returns-then-not-few_rows-2 c =
    frames-many _ _ _ _
    (holds c.few_rows.ensures c.if-not-few_rows.false-raw)
    (fails c.few_rows-2.ensures c.if-not-few_rows-2.true-raw)

pub returns-then-not-few_rows-3 : goal.returns-then-not-few_rows-3
returns-then-not-few_rows-3 c =
    refused-many _ _ _ _
    (holds c.few_rows.ensures c.if-not-few_rows.false-raw)
    (holds c.few_rows-2.ensures c.if-not-few_rows-2.false-raw)
    (fails c.few_rows-3.ensures c.if-not-few_rows-3.true-raw)

pub lengths-sum-requires : goal.lengths-sum-requires
lengths-sum-requires c = few-most _ _ (holds c.few_rows-2.ensures c.if-not-few_rows-2.false-raw)

pub returns-then-sum-payloads : goal.returns-then-sum-payloads
returns-then-sum-payloads c =
    lengths-off _ _ _ _
    (holds c.few_rows.ensures c.if-not-few_rows.false-raw)
    (holds c.few_rows-2.ensures c.if-not-few_rows-2.false-raw)
    (holds c.few_rows-3.ensures c.if-not-few_rows-3.false-raw)
    _ c.lengths-sum.ensures (λ e. omega (arith, e, c.if-sum-payloads.true))

pub returns-then-not-settings_good : goal.returns-then-not-settings_good
returns-then-not-settings_good c =
    settings-bad _ _ _ _
    (holds c.few_rows.ensures c.if-not-few_rows.false-raw)
    (holds c.few_rows-2.ensures c.if-not-few_rows-2.false-raw)
    (holds c.few_rows-3.ensures c.if-not-few_rows-3.false-raw)
    _ c.lengths-sum.ensures (omega (arith, c.if-sum-payloads.false))
    (fails c.settings_good.ensures c.if-not-settings_good.true-raw)

pub returns-then-not-frames_good : goal.returns-then-not-frames_good
returns-then-not-frames_good c =
    frames-bad _ _ _ _
    (holds c.few_rows.ensures c.if-not-few_rows.false-raw)
    (holds c.few_rows-2.ensures c.if-not-few_rows-2.false-raw)
    (holds c.few_rows-3.ensures c.if-not-few_rows-3.false-raw)
    _ c.lengths-sum.ensures (omega (arith, c.if-sum-payloads.false))
    (holds c.settings_good.ensures c.if-not-settings_good.false-raw)
    c.args.rows.cells c.args.rows.bytes
    (fails c.frames_good.ensures c.if-not-frames_good.true-raw)

pub returns : goal.returns
returns c =
    c.refused_good.ensures ∙ all-good _ _ _ _
    (holds c.few_rows.ensures c.if-not-few_rows.false-raw)
    (holds c.few_rows-2.ensures c.if-not-few_rows-2.false-raw)
    (holds c.few_rows-3.ensures c.if-not-few_rows-3.false-raw)
    _ c.lengths-sum.ensures (omega (arith, c.if-sum-payloads.false))
    (holds c.settings_good.ensures c.if-not-settings_good.false-raw)
    c.args.rows.cells c.args.rows.bytes
    (holds c.frames_good.ensures c.if-not-frames_good.false-raw)
