-- `put_byte` writes the two digits of a byte, the upper first.
-- Assumes nothing.
use Rattle.line.specs.Line.{hex_byte}
use Rattle.put.proofs.Puts.{put_on}
use Rattle.line.proofs.put_byte.Goals as goal

pub returns : goal.returns
unfolding hex_byte
returns c =
    rw (← c.hex_digit.ensures, ← c.hex_digit-2.ensures) (put_on c.put-next.ensures c.put.ensures)
