-- A frame whose symbols arrive beside their marks: the words in which the promises of document 02, Ask 2, are said.
-- Assumes nothing.
use Rattle.std.specs.Prelude.{Bool, true, false, List, ◌≡◌, ℕ, ◌^◌, ◌<◌, ℤ, get_or}
use Rattle.drift.specs.Drift.{moved, Small}
use Rattle.layout.specs.Layout.{block_of_symbol}
use Rattle.lora.specs.Count.{frame_of}
use Rattle.lora.specs.declared.Settings.{Settings}
use Rattle.promises.specs.Damage.{block_at}

-- symbol t of a frame stands at the four-wide spacing
unfoldable pub is_spaced : Settings → ℕ → Bool
is_spaced s t = (block_at s (block_of_symbol (frame_of s) t)).spaced

-- each such symbol t arrived d t from what was sent, from -2 to +1, round the circle of the 2^SF numbers; the others as sent
pub record Drifted (d : ℕ → ℤ) (s : Settings) (sent : List ℕ) (count : ℕ) (arrived : List ℕ) : Type 0 where
  pub near : (t : ℕ) → t < count → is_spaced s t ≡ true → Small (d t) × (get_or arrived t 0 ≡ moved (2 ^ s.sf) (get_or sent t 0) (d t))
  pub others : (t : ℕ) → t < count → is_spaced s t ≡ false → get_or arrived t 0 ≡ get_or sent t 0

-- d is the drift of the number s: from -2 to +1, and the mark plus d is the number mod 2^SF
pub record IsDrift (sf mark s : ℕ) (d : ℤ) : Type 0 where
  pub small : Small d
  pub leads : moved (2 ^ sf) mark d ≡ s
