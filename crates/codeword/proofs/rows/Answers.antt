-- The constant's rows are those of the rule: compared all at once.
-- Assumes nothing.
use mathlib.Core.Path.{refl}
use Rattle.bits.specs.Bit.{bit, number}
use Rattle.bits.specs.Tab.{tab, blank}
use Rattle.codeword.specs.Codeword.{parity, parity_of_all, parity_bit, codeword_bit, codeword}
use Rattle.codeword.specs.Rows.{row_of_code}
use Rattle.codeword.proofs.rows.Goals as goal

pub returns : goal.returns
unfolding tab row_of_code blank bit number codeword codeword_bit parity_bit parity parity_of_all
returns c = refl
