-- The checks 1, 2 and 3 make a frame that is valid.
use mathlib.Core.Path.{sym}
use Rattle.lora.proofs.CountLaws.{valid, takes-short}
use Rattle.lora.proofs.counting.shape_of.Goals as goal

pub symbols_of-requires : goal.symbols_of-requires
symbols_of-requires c =
    let sf = rw c.frame_of-frame.ensures at (sym c.if-not-valid_sf.ensures) in
    let cr = rw c.frame_of-frame.ensures at (sym c.if-not-valid_cr.ensures) in
    (rw c.frame_of-frame.ensures (valid c.args.s sf cr), takes-short _ _ (sym c.if-not-takes.ensures))

pub invariant_of-result : goal.invariant_of-result
invariant_of-result c =
    let sf = rw c.frame_of-frame.ensures at (sym c.if-not-valid_sf.ensures) in
    let cr = rw c.frame_of-frame.ensures at (sym c.if-not-valid_cr.ensures) in
    record {
      valid = rw c.frame_of-frame.ensures (valid c.args.s sf cr);
      short = takes-short _ _ (sym c.if-not-takes.ensures);
      whole = c.symbols_of.ensures;
    }
