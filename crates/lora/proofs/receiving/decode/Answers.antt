-- The data codewords read; then 7, 12, or the payload.
use mathlib.Core.Path.{◌≡◌, refl, sym, ◌∙◌}
use Prim.Native.Nat.{◌+◌, ◌≤◌}
use native.Mathlib.Omega.{arith}
use lib.ListN.{get_or}
use mir.Facts.{to_z-of_z}
use mir.Syntax.{w8}
use mir.Val.{to_z, of_z}
use Rattle.bits.specs.Tab.{blank}
use Rattle.drift.specs.Drift.{drift_of}
use Rattle.layout.specs.Layout.{nibbles_of, symbols_of}
use Rattle.layout.proofs.LayoutLaws.{nibbles-le, symbols-ge}
use Rattle.lora.proofs.ReadLaws.{run, read_few, whole_is, run-few, run_small, run-payload, says-unreadable, says-twelve, says-payload}
use borrow.Author.Rules.{sfits_of}
use Rattle.lora.proofs.receiving.decode.Goals as goal

pub overflow_sub-n : goal.overflow_sub-n
unfolding nibbles_of
overflow_sub-n c = omega (arith, c.nibbles_of-n.ensures)

pub read_data-progress-requires : goal.read_data-progress-requires
unfolding symbols_of
read_data-progress-requires c =
    let shape = c.args.shape in
    let d = c.requires.0 in
    let e = whole_is shape.frame shape.len c.nibbles_of-n.ensures in (
      shape.valid,
      d.headed.first,
      d.headed.flipped,
      rw e (nibbles-le shape.frame shape.len shape.valid shape.short),
      rw e (omega (arith, shape.whole, d.there)),
    )

pub overflow_add-end : goal.overflow_add-end
unfolding blank
overflow_add-end c =
    omega (arith, read_few (run c.args.shape c.requires.0.headed c.nibbles_of-n.ensures c.read_data-progress.ensures.0), c.args.shape.valid.header-high)

pub returns-then-end-n : goal.returns-then-end-n
unfolding blank
returns-then-end-n c =
    sym (says-unreadable (run c.args.shape c.requires.0.headed c.nibbles_of-n.ensures c.read_data-progress.ensures.0) (omega (arith, c.if-end-n.true, c.nibbles_of-n.ensures)))

pub payload_of_nibbles-payload-requires : goal.payload_of_nibbles-payload-requires
unfolding blank
payload_of_nibbles-payload-requires c =
    let shape = c.args.shape in
    (shape.valid.header-high, shape.short, run_small (run shape c.requires.0.headed c.nibbles_of-n.ensures c.read_data-progress.ensures.0))

pub sum_holds-requires : goal.sum_holds-requires
unfolding blank
sum_holds-requires c =
    run_small (run c.args.shape c.requires.0.headed c.nibbles_of-n.ensures c.read_data-progress.ensures.0)

pub returns-then-not-sum_holds : goal.returns-then-not-sum_holds
unfolding blank
returns-then-not-sum_holds c =
    let w = run c.args.shape c.requires.0.headed c.nibbles_of-n.ensures c.read_data-progress.ensures.0 in
    sym (says-twelve w _ (blank 255 0) (omega (arith, c.if-end-n.false, c.nibbles_of-n.ensures)) c.payload_of_nibbles-payload.ensures (sym c.if-not-sum_holds.ensures))

pub overflow_add-accepted : goal.overflow_add-accepted
unfolding blank
overflow_add-accepted c =
    let w = run c.args.shape c.requires.0.headed c.nibbles_of-n.ensures c.read_data-progress.ensures.0 in
    omega (arith, run-few w, read_few w, c.args.shape.valid.header-high)

pub bounds-symbols-0 : goal.bounds-symbols-0
bounds-symbols-0 c =
    omega (arith, c.args.shape.whole, c.requires.0.there, symbols-ge c.args.shape.frame c.args.shape.len)

pub drift_of_number-requires : goal.drift_of_number-requires
drift_of_number-requires c =
    let shape = c.args.shape in
    (shape.valid.sf-low, shape.valid.sf-high, c.requires.0.below 0 (omega (arith, shape.whole, symbols-ge shape.frame shape.len)))

pub returns : goal.returns
unfolding blank symbols_of
returns c =
    let shape = c.args.shape in
    let w = run shape c.requires.0.headed c.nibbles_of-n.ensures c.read_data-progress.ensures.0 in
    let all : nibbles_of shape.frame shape.len ≤ shape.frame.header + c.read_data-progress.result.end = omega (arith, c.if-end-n.false, c.nibbles_of-n.ensures) in
    -- the first symbol's drift, as it stands in the answer
    let drift : to_z w8 (of_z w8 c.drift_of_number.result) ≡ drift_of shape.frame.sf (get_or c.args.symbols.now 0 0) = to_z-of_z {w = w8} (sfits_of c.drift_of_number.type_inv) ∙ c.drift_of_number.ensures in
    record {
      says = sym (rw shape.whole (says-payload w _ (blank 255 0) drift all c.payload_of_nibbles-payload.ensures (sym c.if-not-sum_holds.ensures)));
      payload = c.payload_of_nibbles-payload.ensures ∙ run-payload w all (blank 255 0);
      marked = rw (whole_is shape.frame shape.len c.nibbles_of-n.ensures) at (c.read_data-progress.ensures.1 (omega (arith, c.if-end-n.false)));
    }
