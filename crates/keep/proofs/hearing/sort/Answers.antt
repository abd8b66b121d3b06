-- `sort` keeps what the answer of read fits.
-- Assumes nothing.
use Rattle.keep.proofs.hearing.sort.Goals as goal

pub returns-in-Ok : goal.returns-in-Ok
returns-in-Ok c = rw c.in-Ok.is at c.requires

pub returns-then-is_number : goal.returns-then-is_number
returns-then-is_number c = rw c.in-Err.is at c.requires
