-- The tally that stands in the cells.
use Rattle.lora_c.specs.TallyExport.{tally_in}
use Rattle.lora_c.proofs.TallyLaws.{refused_of_cells}
use Rattle.lora_c.proofs.tallies.tally_in.Goals as goal

pub returns : goal.returns
unfolding tally_in
returns c = rw (c.copy_from_slice.ensures.after, refused_of_cells _ c.requires)
