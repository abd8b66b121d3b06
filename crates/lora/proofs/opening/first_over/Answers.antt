-- Where the first look finds something a search says where.
use mathlib.Core.Path.{sym, ap, ◌∙◌}
use Prim.Native.Nat.{ℕ, ◌^◌, ◌<◌, ◌≤◌}
use native.Mathlib.Omega.{arith}
use lib.ListN.{length}
use borrow.Author.Tests.{leb-true}
use Rattle.std.proofs.Common.{rules, tests}
use Rattle.std.proofs.lemmas.Iterator.{IsFirst-from_position, YieldsList-from_slice}
use Rattle.bits.proofs.Searches.{first_range}
use Rattle.lora.specs.Head.{is_over, first_over}
use Rattle.lora.proofs.HeadLaws.{over-is}
use Rattle.lora.proofs.opening.first_over.Goals as goal

pub returns-then-none_over : goal.returns-then-none_over
unfolding first_over
returns-then-none_over c =
    omega (arith, leb-true (length c.args.symbols.now) _ (sym c.none_over.ensures ∙ c.if-none_over.true), first_range (is_over c.args.sf c.args.symbols.now) (length c.args.symbols.now) 0)

pub returns : goal.returns
returns c =
    let m = c.power-m.result in
    over-is _ m _ _ (c.power-m.ensures.0 ∙ ap (λ (k : ℕ). 2 ^ k) c.from.ensures)
    (IsFirst-from_position _ _ _ (λ x. m ≤ x) (λ x. x < m) c.position.ensures.ran (YieldsList-from_slice c.args.symbols.now cc) (λ x q k. search (rules, tests)) (λ x q k. search (rules, tests)))
