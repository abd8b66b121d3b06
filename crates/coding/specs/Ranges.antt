-- The range that write_frame is asked with. Nothing here is part of an offered operation's contract.
-- Assumes nothing.
use Rattle.std.specs.Prelude.{◌≡◌, List, ℕ, ◌<◌, ◌≤◌, length, get_or}
use Rattle.layout.specs.declared.Frame.{Frame}

-- header nibbles, and a payload, that a frame of this shape can have
pub record Sendable (F : Frame) (header payload : List ℕ) : Type 0 where
  pub nibbles : (i : ℕ) → get_or header i 0 < 16
  pub long : length header ≡ F.header
  pub short : length payload ≤ 255
