-- A number that is closed goes behind the others, and the places behind it are 0 as before.
use Rattle.std.proofs.Common.{◌<◌, length, ap, arith}
use Rattle.text.specs.declared.Scan.TheInside.{Inside}
use Rattle.text.proofs.HeldLaws.{length-front-more, padded-more}
use Rattle.text.proofs.Scan.close_number.Goals as goal

pub invariant_of-self : goal.invariant_of-self
invariant_of-self c =
    let s = c.self.inside in
    let h = c.self.invariant in
    let few : s.count < length s.numbers = omega (arith, c.if-self-lt-NUMBERS.true, c.self.told) in
    let long = ap (λ (a : Inside). a.count) h.made in
    let made = ap (λ (a : Inside). a.numbers) h.made in
    record {
      few = h.few;
      small = h.small;
      placed = omega (arith, c.if-self-lt-NUMBERS.true);
      made = λ i. record {
        refused = s.refused;
        digits = s.digits;
        value = s.value;
        numbers = padded-more 837 s.numbers s.count s.value few c.self.told long made i;
        count = length-front-more 837 s.numbers s.count s.value few long i;
      };
    }
