-- `keep_byte` stores at most one byte, behind those kept.
-- Assumes nothing.
use Rattle.std.proofs.Common.{◌+◌, ◌*◌, ◌<◌, length, ap, arith}
use Rattle.text.proofs.HeldLaws.{length-front-more, padded-more}
use Rattle.wish.specs.Scan.{kept}
use Rattle.wish.specs.declared.Scan.TheInside.{Inside}
use Rattle.wish.proofs.HexLaws.{some-digit, no-digit}
use Rattle.wish.proofs.ScanLaws.{added-high, added-no-low, added-other, kept-none, kept-full, kept_one}
use borrow.Author.Rules.{rules}
use Rattle.wish.proofs.Scan.keep_byte.Goals as goal
use Rattle.wish.proofs.Scan.keep_byte.Goals.{else-high-lt16-via-then-high-lt16+else-self-lt256, else-high-lt16-via-else-high-lt16}

pub returns-in_default : goal.returns-in_default
unfolding kept
returns-in_default c =
    let i = c.self.inside in
    rw (← c.self.view_is, ← kept-none i.word c.args.b i.count i.bytes (added-other i.word c.args.b c.in_default.not-Half) c.self.invariant.few)

pub returns-in_default-hex_value : goal.returns-in_default-hex_value
unfolding kept
returns-in_default-hex_value c =
    let i = c.self.inside in
    rw (← c.self.view_is, ← kept-none i.word c.args.b i.count i.bytes (added-no-low i.word c.args.b (no-digit c.args.b c.in_default-hex_value.ensures)) c.self.invariant.few)

pub returns-then-self-lt256 : goal.returns-then-self-lt256
unfolding kept
returns-then-self-lt256 c =
    let i = c.self.inside in
    let high = c.in-Half.high in
    let d = some-digit c.args.b c.in-Some.low c.in-Some.ensures in
    rw (← c.self.view_is, c.in-Half.is, kept_one high c.args.b i.count i.bytes d.hex d.is c.if-high-lt16.true c.if-self-lt256.true c.self.told)

pub returns-else-high-lt16 : goal.returns-else-high-lt16
unfolding kept
returns-else-high-lt16 c =
    let i = c.self.inside in
    rw (← c.self.view_is) (elim c.else-high-lt16.branch [
      | else-high-lt16-via-then-high-lt16+else-self-lt256 w ↦ rw (← kept-full i.word c.args.b i.count i.bytes w.if-self-lt256.false c.self.invariant.few c.self.told)
      | else-high-lt16-via-else-high-lt16 w ↦ rw (← kept-none i.word c.args.b i.count i.bytes (rw c.in-Half.is (added-high c.in-Half.high c.args.b w.if-high-lt16.false)) c.self.invariant.few)
    ])

-- a byte that is kept goes behind the others, and the places behind it are 0 as before
pub invariant_of-self : goal.invariant_of-self
invariant_of-self c =
    let s = c.self.inside in
    let h = c.self.invariant in
    let v = c.in-Half.high * 16 + c.in-Some.low in
    let below : s.count < 256 = search rules in
    let few : s.count < length s.bytes = omega (arith, below, c.self.told) in
    let long = ap (λ (a : Inside). a.count) h.made in
    let made = ap (λ (a : Inside). a.bytes) h.made in
    record {
      few = omega (arith, below);
      made = λ i. record {
        head = s.head;
        word = s.word;
        bytes = padded-more 256 s.bytes s.count v few c.self.told long made i;
        count = length-front-more 256 s.bytes s.count v few long i;
      };
    }
