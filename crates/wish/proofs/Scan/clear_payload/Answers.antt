-- The places that held bytes are 0 again, as those behind them are.
use Rattle.std.proofs.Common.{◌≡◌, ◌++◌, drop, replicate, ap, arith}
use Rattle.text.proofs.HeldLaws.{padded-none}
use Rattle.wish.specs.declared.Scan.TheInside.{Inside}
use Rattle.wish.proofs.Scan.clear_payload.Goals as goal

pub invariant_of-self : goal.invariant_of-self
invariant_of-self c =
    let s = c.self.inside in
    let h = c.self.invariant in
    let long = ap (λ (a : Inside). a.count) h.made in
    let made = ap (λ (a : Inside). a.bytes) h.made in
    let zeros : c.fill.new.self ≡ replicate s.count 0 = rw long at (c.fill.ensures.after (λ y e. e)) in
    let is : replicate 256 0 ≡ c.fill.new.self ++ drop s.count s.bytes = rw zeros (padded-none 256 s.bytes s.count h.few long made) in
    record { few = omega arith; made = λ i. record { head = s.head; word = s.word; bytes = is i; count = 0 } }
