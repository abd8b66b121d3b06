-- The operation code: it checks 1, 2, 3, 4.
-- Assumes nothing.
use Rattle.std.specs.Prelude.{List, ◌≡◌, ℕ, leb, length, take, Result, Ok, Err}
use Rattle.bits.specs.Check.{check}
use Rattle.bits.specs.Tab.{over}
use Rattle.coding.specs.Nibbles.{frame_nibble}
use Rattle.coding.specs.Symbols.{symbol_at}
use Rattle.header.specs.Header.{header_nibbles}
use Rattle.layout.specs.declared.Frame.{Frame}
use Rattle.lora.specs.Count.{frame_of, count_of}
use Rattle.lora.specs.declared.Settings.{Settings}
use Rattle.refusal.specs.Refusal.{refuse}
use Rattle.refusal.specs.declared.Refusal.{Refusal}

-- the header that a frame is sent with: its five nibbles, or none of them
unfoldable pub header_sent : Frame → ℕ → List ℕ
header_sent F len = take F.header (header_nibbles len F.cr F.checked)

-- nibble i of the frame of this shape with this payload, and symbol t of it
unfoldable pub sent_nibble : Frame → List ℕ → ℕ → ℕ
sent_nibble F payload = frame_nibble (header_sent F (length payload)) payload F.checked

unfoldable pub sent_symbol : Frame → List ℕ → ℕ → ℕ
sent_symbol F payload = symbol_at F (sent_nibble F payload)

-- count's checks, then 4 for the lent list
abbrev pub fitting : Result ℕ Refusal → ℕ → Result ℕ Refusal
fitting (Err refusal) room = Err refusal
fitting (Ok count) room = check (leb count room) (refuse 4 count) (Ok count)

unfoldable pub code_of : Settings → List ℕ → ℕ → Result ℕ Refusal
code_of s payload room = fitting (count_of s (length payload)) room

-- the lent list afterwards: the frame and what stood behind it; after a refusal as it was
abbrev pub symbols_after : Result ℕ Refusal → Settings → List ℕ → List ℕ → List ℕ
symbols_after (Ok count) s payload old = over count (sent_symbol (frame_of s) payload) old
symbols_after (Err refusal) s payload old = old

pub record Coding (s : Settings) (payload old new : List ℕ) (r : Result ℕ Refusal) : Type 0 where
  pub answer : r ≡ code_of s payload (length old)
  pub cells : new ≡ symbols_after r s payload old
