-- Beside the mark, or at the end of the range and one time round.
use mathlib.Core.Path.{◌≡◌, ap, ◌∙◌}
use Prim.Native.Nat.{ℕ, ◌+◌, ◌^◌, ◌≤◌, ◌<◌}
use native.Mathlib.Omega.{arith}
use lib.IntN.{pos, ◌-ℤ◌}
use lib.Pow.{pow_mono}
use mir.Facts.{to_z-of_z}
use mir.Syntax.{w8}
use Rattle.drift.specs.Drift.{drift_of}
use Rattle.drift.proofs.DriftLaws.{mark-below, beside, past}
use borrow.Author.Rules.{sfits_of}
use Rattle.drift.proofs.drift_of_number.Goals.{After-mark_of_number-mark, After-power-round, Else-s-mark, Start, Then-s-mark}
use Rattle.drift.proofs.drift_of_number.Goals as goal

-- the circle has at most 4,096 numbers, and the mark is one of them
power_le : (c : Start) → 2 ^ c.args.sf ≤ 4096
power_le c = let h : 2 ^ c.args.sf ≤ 2 ^ 12 = pow_mono c.requires.1 in h

mark-lt : (c : After-mark_of_number-mark) → c.mark_of_number-mark.result < 2 ^ c.args.sf
mark-lt c =
    let (low, high, below) = c.requires in
    rw c.mark_of_number-mark.ensures (mark-below _ (omega arith) _ below)

-- the two ways in which the number stands to its mark
turned : (c : Then-s-mark) → let a = c.args in let m = c.mark_of_number-mark.result in
    (a.s ≤ m + 2 ^ a.sf) × (m + 2 ^ a.sf ≤ a.s + 2) × (pos a.s -ℤ pos (m + 2 ^ a.sf) ≡ drift_of a.sf a.s)
turned c =
    let (low, high, below) = c.requires in
    let is = c.mark_of_number-mark.ensures in
    rw is (past _ (omega arith) _ below (omega (arith, is, c.if-s-mark.true)))

straight : (c : Else-s-mark) → let a = c.args in let m = c.mark_of_number-mark.result in
    (m ≤ a.s + 2) × (pos a.s -ℤ pos m ≡ drift_of a.sf a.s)
straight c =
    let (low, high, below) = c.requires in
    let is = c.mark_of_number-mark.ensures in
    rw is (beside _ (omega arith) _ below (omega (arith, is, c.if-s-mark.false)))

-- one time round
round_is : (c : After-power-round) → c.power-round.result ≡ 2 ^ c.args.sf
round_is c = c.power-round.ensures.0 ∙ ap (λ (k : ℕ). 2 ^ k) c.from.ensures

pub overflow_add-mark : goal.overflow_add-mark
overflow_add-mark c = record { fits = omega (arith, mark-lt c, power_le c.before) }

pub overflow_add-mark-then-s-mark : goal.overflow_add-mark-then-s-mark
overflow_add-mark-then-s-mark c =
    record { fits = omega (arith, round_is c, mark-lt c.before.before.before, power_le c.before.before.before.before) }

pub difference-requires : goal.difference-requires
difference-requires c =
    let (most, least, is) = turned c.before.before in
    let below = c.requires.2 in
    rw (round_is c) (omega arith, least, omega (arith, below, power_le c.before.before.before.before), omega (arith, mark-lt c.before.before.before, power_le c.before.before.before.before))

pub returns-then-s-mark : goal.returns-then-s-mark
returns-then-s-mark c =
    let (most, least, is) = turned c.before.before.before in
    to_z-of_z {w = w8} (sfits_of c.difference.type_inv) ∙ c.difference.ensures
    ∙ ap (λ (x : ℕ). pos c.args.s -ℤ pos (c.mark_of_number-mark.result + x)) (round_is c.before) ∙ is

pub difference-requires-2 : goal.difference-requires-2
difference-requires-2 c =
    let (low, high, below) = c.requires in
    (c.if-s-mark.false, (straight c).0, omega (arith, below, power_le c.before.before), omega (arith, mark-lt c.before, power_le c.before.before))

pub returns : goal.returns
returns c = to_z-of_z {w = w8} (sfits_of c.difference-2.type_inv) ∙ c.difference-2.ensures ∙ (straight c.before).1
