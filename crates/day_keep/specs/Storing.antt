-- What is known of a file that is kept under a name.
-- Assumes nothing.
use Rattle.std.specs.Prelude.{List, Result, OnOk, ◌≡◌, ℕ, take}
use Rattle.day.specs.Day.{Day, kind1, judged}
use Rattle.day.specs.Script.{taken}
use Rattle.day_keep.specs.declared.storing.Failure.{Failure}

-- a file that is whole was read back as the bytes that were written, and is a file of some day
abbrev pub Checked : Result Unit Failure → List ℕ → List ℕ → Type 0
Checked kept file read = OnOk kept ((file ≡ read) × ((d : Day) × (judged kind1 read ≡ taken d)))

-- the same of what stands at the front of a buffer
abbrev pub CheckedBack : Result Unit Failure → List ℕ → List ℕ → Type 0
CheckedBack kept file buffer = (n : ℕ) × Checked kept file (take n buffer)
