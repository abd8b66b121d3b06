-- The checksum of the payload's first bytes beside the one sent, where there is one.
use mathlib.Core.Path.{sym}
use lib.Seq.{length-take-le}
use borrow.Author.Rules.{rules}
use Rattle.lora.proofs.receiving.sum_holds.Goals as goal

pub slice_bounds-checksum-end : goal.slice_bounds-checksum-end
slice_bounds-checksum-end c = sym (length-take-le _ _ (search rules))
