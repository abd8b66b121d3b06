-- The data read; payload and marks are written only where all is well.
use mathlib.Core.Path.{sym, ◌∙◌}
use native.Mathlib.Omega.{arith}
use lib.Seq.{length-take-le}
use Rattle.lora.proofs.ReadLaws.{whole-le, front-payload, front-marks}
use Rattle.lora.proofs.receiving.deliver.Goals as goal

pub slice_bounds-marks-end : goal.slice_bounds-marks-end
slice_bounds-marks-end c = omega (arith, whole-le c.args.shape)

pub slice_bounds-copy_from_slice-end-6 : goal.slice_bounds-copy_from_slice-end-6
slice_bounds-copy_from_slice-end-6 c =
    sym (length-take-le _ _ (omega (arith, whole-le c.args.shape, c.in_ok-body.ensures.marked.long)))

pub copy_from_slice-requires-2 : goal.copy_from_slice-requires-2
copy_from_slice-requires-2 c =
    length-take-le _ _ c.requires.2
    ∙ sym (length-take-le _ _ (omega (arith, whole-le c.args.shape, c.in_ok-body.ensures.marked.long)))

pub returns : goal.returns
returns c =
    let shape = c.args.shape in
    let held = c.in_ok-body.ensures in
    let payload = front-payload shape.frame c.args.symbols.now shape.len held.payload in
    let marks = front-marks shape.frame c.args.symbols.now shape.len (omega (arith, shape.whole, whole-le shape)) held.marked in
    record {
      answer = sym held.says;
      cells = rw (c.copy_from_slice.ensures.after, payload);
      marks = rw (c.copy_from_slice-2.ensures.after, shape.whole, marks);
    }
