use mathlib.Core.Path.{◌≡◌, ap, ap₂, ◌∙◌}
use mathlib.Core.List.{List, ◌++◌}
use Prim.Native.Nat.{ℕ, ◌<◌}
use native.Mathlib.Omega.{arith}
use lib.Bits.{bit_xor}
use lib.ListN.{length, take, drop, get_or}
use lib.Seq.{get_or-take, length-take-le}
use Rattle.bits.specs.Bit.{bit}
use Rattle.bits.specs.Tab.{tab}
use Rattle.bits.proofs.Tabs.{get_or-tab}
use Rattle.bits.proofs.Fill.{filled_none, filled_more, filled-rest, filled-whole}
use Rattle.whitening.specs.Whitening.{next, whitening}
use Rattle.whitening.proofs.whiten.Goals as goal

pub loop-p-init : goal.loop-p-init
loop-p-init c = filled_none _ _

-- THE TEST: the table is compared with the 255 bytes by the rule, all at once
pub loop-p-preserved : goal.loop-p-preserved
unfolding tab whitening next bit
loop-p-preserved c =
    let l = c.loop-p in
    let a = c.args in
    let part : length (take a.len a.bytes.now) ≡ a.len = length-take-le a.len a.bytes.now (omega arith) in
    let below : l.p < a.len = omega arith in
    let byte : get_or l.byte-items l.p 0 ≡ get_or a.bytes.now l.p 0 = filled-rest 0 l.invariant ∙ get_or-take a.len a.bytes.now l.p 0 below in
    filled_more l.invariant c.loop-p-test.true (ap₂ bit_xor byte (get_or-tab 255 whitening l.p 0 (omega arith)))

pub returns : goal.returns
returns c =
    let a = c.args in
    let part : length (take a.len a.bytes.now) ≡ a.len = length-take-le a.len a.bytes.now (omega arith) in
    ap (λ (x : List ℕ). x ++ drop a.len a.bytes.now) (filled-whole a.len c.loop-p.invariant (omega arith) part)
