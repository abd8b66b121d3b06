-- The places that held numbers are 0 again, as those behind them are.
use Rattle.std.proofs.Common.{◌≡◌, ◌++◌, drop, replicate, ap, arith}
use Rattle.text.specs.declared.Scan.TheInside.{Inside}
use Rattle.text.proofs.HeldLaws.{padded-none}
use Rattle.text.proofs.Scan.clear.Goals as goal

pub invariant_of-self-2 : goal.invariant_of-self-2
invariant_of-self-2 c =
    let s = c.self-2.inside in
    let h = c.self-2.invariant in
    let long = ap (λ (a : Inside). a.count) h.made in
    let made = ap (λ (a : Inside). a.numbers) h.made in
    let zeros : c.fill.new.self ≡ replicate s.count 0 = rw long at (c.fill.ensures.after (λ y e. e)) in
    let is : replicate 837 0 ≡ c.fill.new.self ++ drop s.count s.numbers = rw zeros (padded-none 837 s.numbers s.count h.placed long made) in
    record {
      few = h.few;
      small = h.small;
      placed = omega arith;
      made = λ i. record { refused = s.refused; digits = s.digits; value = s.value; numbers = is i; count = 0 };
    }
