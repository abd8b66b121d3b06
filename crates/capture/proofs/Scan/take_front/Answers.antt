-- `take_front` ends where the front does, or the piece.
-- Assumes nothing.
use Rattle.std.proofs.Common.{rules, ◌∙◌, sym, inl, inr, refl, length, get_or}
use Rattle.std.proofs.lemmas.List.{take_all}
use Rattle.bits.proofs.Lists.{foldl-more}
use Rattle.capture.specs.Scan.{step, run}
use Rattle.capture.proofs.ScanLaws.{front-stays, front-ends}
use Rattle.capture.proofs.Scan.take_front.Goals as goal

pub loop-i-init : goal.loop-i-init
unfolding run
loop-i-init c = search rules

pub loop-i-preserved : goal.loop-i-preserved
unfolding run
loop-i-preserved c =
    let l = c.loop-i in
    let s = c.args.self.now in
    let piece = c.args.piece.now in
    let is_fresh = sym c.is_fresh.ensures ∙ c.if-not-is_fresh.false in
    let blank = sym c.is_separator.ensures ∙ c.if-not-is_separator.false in
    (l.invariant.0, rw (← foldl-more step s piece l.i 0 c.loop-i-test.true, l.invariant.1) (front-stays s (get_or piece l.i 0) is_fresh blank))

pub returns-then-not-is_fresh : goal.returns-then-not-is_fresh
unfolding run
returns-then-not-is_fresh c = record { held = search rules; within = search rules; past = inl (sym c.is_fresh.ensures ∙ c.if-not-is_fresh.true) }

pub returns-then-not-is_separator : goal.returns-then-not-is_separator
unfolding run
returns-then-not-is_separator c =
    let l = c.loop-i in
    let s = c.args.self.now in
    let piece = c.args.piece.now in
    let took = rw l.invariant.0 at c.take_byte.ensures in
    record {
      held = rw (← foldl-more step s piece l.i 0 c.loop-i-test.true, l.invariant.1) took;
      within = search rules;
      past = inl (rw took (front-ends s (get_or piece l.i 0) (sym c.is_separator.ensures ∙ c.if-not-is_separator.true)));
    }

pub returns : goal.returns
returns c =
    let l = c.loop-i in
    let piece = c.args.piece.now in
    record {
      held = rw (take_all (length piece) piece (search rules)) (l.invariant.0 ∙ sym (rw (take_all l.i piece c.loop-i-test.false) at l.invariant.1));
      within = search rules;
      past = inr refl;
    }
