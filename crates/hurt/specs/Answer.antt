-- What the steps of answering a capture are asked with, and the line for a capture that was taken byte by byte.
-- Assumes nothing.
use Rattle.std.specs.Prelude.{List, ℕ, ◌≤◌, Ok, Err}
use Rattle.capture.specs.Scan.{State, taken}
use Rattle.lora.specs.Received.{Received}
use Rattle.hurt.specs.Hurt.{answer_to}

-- an answer whose symbols have a cell each
abbrev pub Marked : Received → Type 0
Marked (Ok a) = a.symbols ≤ 832
Marked (Err e) = Unit

-- what a capture that ends in this state is answered
unfoldable pub line_at : State → List ℕ
line_at s = answer_to (taken s)
