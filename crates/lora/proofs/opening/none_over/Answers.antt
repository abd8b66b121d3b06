use mathlib.Core.Path.{◌≡◌, ap, ap₂, ◌∙◌}
use Prim.Native.Nat.{ℕ, ◌-◌, ◌^◌, ◌≤◌}
use native.Mathlib.Omega.{arith}
use lib.Dec.{leb}
use lib.ListN.{length}
use borrow.Author.Tests.{le-leb, lt-leb}
use Rattle.bits.proofs.Searches.{none-start, none_here, none-on}
use Rattle.lora.specs.Head.{is_over, first_over}
use Rattle.lora.proofs.opening.none_over.Goals as goal
use Rattle.lora.proofs.opening.none_over.Goals.{then-m-x, else-m-x}

pub loop-x-init : goal.loop-x-init
unfolding first_over is_over
loop-x-init c = (c.power-m.ensures.0 ∙ ap (λ (k : ℕ). 2 ^ k) c.from.ensures, none-start _ _)

pub loop-x-preserved : goal.loop-x-preserved
unfolding first_over is_over
loop-x-preserved c =
    let l = c.loop-x in
    let a = c.args in
    let low : 0 ≤ l.x-index = omega arith in (
      l.invariant.0,
      elim c.if-m-x.branch [
        | then-m-x w ↦ w.none-is ∙ none_here (is_over a.sf a.symbols.now) 0 l.x-index low (le-leb _ _ (rw l.invariant.0 at w.if-m-x.true))
        | else-m-x w ↦ w.none-is ∙ l.invariant.1 ∙ none-on (is_over a.sf a.symbols.now) 0 l.x-index low (lt-leb _ _ (rw l.invariant.0 at w.if-m-x.false))
      ],
    )

pub returns : goal.returns
returns c =
    let l = c.loop-x in
    let all : l.x-index ≡ length c.args.symbols.now = omega arith in
    let same : l.x-index - 0 ≡ length c.args.symbols.now = omega arith in
    l.invariant.1 ∙ ap₂ (λ (i n : ℕ). leb i (first_over c.args.sf c.args.symbols.now n 0)) all same
