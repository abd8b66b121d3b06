-- What the system's calls handed over.
-- Assumes nothing.
use Rattle.std.specs.Prelude.{List, Option, Result, Ok, Err, ◌≡◌, ℕ, ℤ, pos, ◌+◌, ◌≤◌, ◌<◌, length, take, unwrap_or, IfOk, MatchResult}
use Rattle.std.specs.Io.KnownBytes.{Appends}
use Rattle.std.specs.declared.io.Error.{Error}
use Rattle.std.specs.declared.io.ErrorKind.{ErrorKind}
use Rattle.std.specs.declared.io.ErrorKind.TheVariants.{InvalidInput}
use Rattle.std.specs.IoError.{error_kind, raw_os_error}
use Rattle.system.specs.declared.Request.{Request}
use Rattle.system.specs.declared.Request.TheVariants.{Plain, Name, Help, Other}
use Rattle.system.specs.declared.Unwritten.{Unwritten}

-- the number of an error that has none of the system's
abbrev pub otherwise : ErrorKind → ℤ
otherwise InvalidInput = pos 22
otherwise _ = pos 0

-- the system's number for what went wrong
abbrev pub number_of : Error → ℤ
number_of e = unwrap_or (raw_os_error e) (otherwise (error_kind e))

-- the bytes that a read left at the front of its buffer lie within it; none stand for the input's end
abbrev pub Within : Result ℕ Error → List ℕ → Type 0
Within got buffer = IfOk got (λ n. n ≤ length buffer)

-- the same of a read behind the bytes before from
abbrev pub Behind : Result ℕ Error → ℕ → List ℕ → Type 0
Behind got from buffer = IfOk got (λ n. from + n ≤ length buffer)

-- the bytes of an argument
abbrev pub Named : Request → List ℕ → Type 0
Named (Name n) word = n ≤ length word
Named Plain word = Unit
Named Help word = Unit
Named Other word = Unit

-- what a write did: it got rid of all bytes, which are so many, or was broken off
abbrev pub Sent : Type 0
Sent = Result ℕ Unwritten

-- of so many bytes the system took all, or fewer where the write was broken off; which bytes, nothing here says
abbrev pub Handed : ℕ → Sent → Type 0
Handed count sent = MatchResult sent (λ n. n ≡ count) (λ u. u.bytes < count)

-- a writer whose bytes are known holds those that the system took, behind what it held
abbrev pub Appended : Option (List ℕ) → Option (List ℕ) → List ℕ → Sent → Type 0
Appended old new bytes (Ok n) = Appends old new bytes
Appended old new bytes (Err u) = Appends old new (take u.bytes bytes)

-- a line stands at the front of a buffer, and a write was to hand over as many bytes as it has
pub record Printing (line buffer : List ℕ) (sent : Sent) : Type 0 where
  pub is : take (length line) buffer ≡ line
  pub handed : Handed (length line) sent
