-- Laws of what the system's calls handed over.
-- Assumes nothing.
use mathlib.Core.Path.{◌≡◌}
use mathlib.Core.List.{List, ◌++◌}
use Prim.Native.Nat.{ℕ, ◌+◌, ◌≤◌}
use native.Mathlib.Omega.{arith}
use lib.ListN.{length}
use lib.Seq.{take-append_seam}
use Rattle.std.specs.Prelude.{Result, Ok, Err}
use Rattle.std.specs.declared.io.Error.{Error}
use Rattle.system.specs.Calls.{Within, Behind, Handed, Printing, Sent}

-- a line that stands before the rest of a buffer, and its length handed on
pub printing : (line rest : List ℕ) {buffer : List ℕ} {n : ℕ} {sent : Sent} → buffer ≡ line ++ rest → n ≡ length line → Handed n sent → Printing line buffer sent
printing line rest e l h = record { is = rw e (take-append_seam line rest); handed = rw l at h }

-- what a read left in the rest of a buffer lies behind the bytes before it
pub behind : (got : Result ℕ Error) (from : ℕ) (rest buffer : List ℕ) → from + length rest ≤ length buffer → Within got rest → Behind got from buffer
behind (Ok n) from rest buffer h w = omega (arith, h, w)
behind (Err error) from rest buffer h w = tt
