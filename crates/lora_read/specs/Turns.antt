-- What the turns of the loop hand on: the bytes that a read left are taken whole into the text.
-- Assumes nothing.
use Rattle.std.specs.Prelude.{Bool, true, false, List, Result, Ok, Err, ◌≡◌, ◌<◌, ℕ, take}
use Rattle.std.specs.declared.io.Error.{Error}
use Rattle.text.specs.Scan.{State, start, run}

-- after a read: the text goes on with exactly the bytes that it left; it has ended where the read came to the end, which is no
-- byte, and is as it was; it has failed where the read did
abbrev pub Follows : Result Bool Error → Result ℕ Error → State → List ℕ → State → Type 0
Follows (Ok true) got s buffer later = (n : ℕ) × (0 < n) × (got ≡ Ok n) × (later ≡ run s (take n buffer))
Follows (Ok false) got s buffer later = (got ≡ Ok 0) × (later ≡ s)
Follows (Err error) got s buffer later = got ≡ Err error

-- a text that has ended is some text from its beginning on
abbrev pub Finished : Result State Error → Type 0
Finished (Ok scan) = (bytes : List ℕ) × (scan ≡ run start bytes)
Finished (Err error) = Unit
