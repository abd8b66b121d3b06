-- What the steps of answering a text are asked with.
-- Assumes nothing.
use Rattle.std.specs.Prelude.{cond, ℕ, ◌≤◌, leb, Ok, Err}
use Rattle.lora.specs.Received.{Received}

-- an answer whose payload fits the array
abbrev pub Shown : Received → Type 0
Shown (Ok a) = a.length ≤ 255
Shown (Err e) = Unit

-- a number as a byte; what fits none becomes 255, which is no SF and no CR
abbrev pub narrowed : ℕ → ℕ
narrowed n = cond (leb n 255) n 255
