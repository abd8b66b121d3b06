-- What a capture is heard as.
-- Assumes nothing.
use Rattle.std.specs.Prelude.{◌≤◌, Ok, Err}
use Rattle.lora.specs.Received.{Received}
use Rattle.lora.specs.declared.Accepted.{Accepted}
use Rattle.keep.specs.declared.hearing.Heard.{Heard}
use Rattle.keep.specs.declared.hearing.Heard.TheVariants.{Frame, Refused, Told}

-- what is said of a payload fits the numbers of an entry
pub record Fits (a : Accepted) : Type 0 where
  pub short : a.length ≤ 255
  pub few : a.repairs ≤ 65535

-- the same of an answer of read
abbrev pub Read : Received → Type 0
Read (Ok a) = Fits a
Read (Err e) = e.place ≤ 65535

-- and of what was heard
abbrev pub Sound : Heard → Type 0
Sound (Frame sf low a) = Fits a
Sound (Refused sf low e) = e.place ≤ 65535
Sound (Told e) = Unit
