-- The cells become those of no outcome.
use borrow.Author.Tests.{le-leb}
use Rattle.tally.specs.Tally.{clear_of}
use Rattle.lora_c.proofs.tallies.lora_tally_clear.Goals as goal

pub returns : goal.returns
unfolding clear_of
returns c =
    let enough = le-leb _ _ c.if-cells-lt-CELLS.false in
    record { returned = rw enough; cells = rw enough (rw c.none.ensures at c.put_tally.ensures) }
