-- What the turns of the loop hand on: the chunk that a read left is taken whole, and its answers go to the system as they are.
-- Assumes nothing.
use Rattle.std.specs.Prelude.{Bool, true, false, List, Result, Ok, Err, ◌≡◌, ◌<◌, ℕ, take}
use Rattle.std.specs.declared.io.Error.{Error}
use Rattle.lines.specs.Stream.{run}
use Rattle.lines.specs.declared.Progress.{Progress}
use Rattle.filter.specs.declared.Broken.{Broken}
use Rattle.filter.specs.declared.Broken.TheVariants.{Unread, Unwritten}

-- a chunk was taken whole, or a write failed
abbrev pub OnChunk : Result Unit Broken → Progress → List ℕ → Progress → Type 0
OnChunk (Ok done) p chunk later = later ≡ run p chunk
OnChunk (Err (Unread answers error)) p chunk later = ⊥
OnChunk (Err (Unwritten answers error)) p chunk later = Unit

-- after a read: the run goes on, or a write failed, behind exactly the bytes that it left; it has ended where the read came to the
-- end, which is no byte, and stands where it stood; it was broken off where the read failed. Nothing is made up
abbrev pub Came : Result Bool Broken → Result ℕ Error → Progress → List ℕ → Progress → Type 0
Came (Ok true) got p buffer later = (n : ℕ) × (0 < n) × (got ≡ Ok n) × (later ≡ run p (take n buffer))
Came (Ok false) got p buffer later = (got ≡ Ok 0) × (later ≡ p)
Came (Err (Unread answers error)) got p buffer later = (got ≡ Err error) × (answers ≡ p.counts.texts)
Came (Err (Unwritten answers error)) got p buffer later = (n : ℕ) × (0 < n) × (got ≡ Ok n)

pub record Follows (turn : Result Bool Broken) (got : Result ℕ Error) (p : Progress) (buffer : List ℕ) (later : Progress) : Type 0 where
  pub came : Came turn got p buffer later

-- a run that has ended has taken some input whole
abbrev pub Finished : Result Unit Broken → Progress → Progress → Type 0
Finished (Ok done) p later = (input : List ℕ) × (later ≡ run p input)
Finished (Err broken) p later = Unit
