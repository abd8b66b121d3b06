-- The constant's entries are what every word is read as by the definition: compared all at once.
-- Assumes nothing.
use mathlib.Core.Path.{refl}
use Rattle.bits.specs.Bit.{bit, number}
use Rattle.bits.specs.Search.{first, how_many}
use Rattle.bits.specs.Tab.{tab}
use Rattle.codeword.specs.Codeword.{parity, parity_of_all, parity_bit, codeword_bit, codeword, apart, flipped, bit_to, read_as}
use Rattle.codeword.specs.Readings.{reading_at, reading_table}
use Rattle.codeword.proofs.readings.Goals as goal

pub returns : goal.returns
unfolding tab reading_table reading_at read_as bit_to flipped first apart how_many codeword codeword_bit parity_bit parity_of_all parity bit number
returns c = refl
