-- What the inner steps of read are asked with and answer. Nothing here is part of an offered operation's contract.
-- Assumes nothing.
use Rattle.std.specs.Prelude.{Bool, true, cond, List, ◌≡◌, ℕ, ◌^◌, ◌≤◌, ◌<◌, eqb, leb, length, get_or, take, Option, None, Some, Result, Ok, Err}
use Rattle.bits.specs.Check.{check}
use Rattle.bits.specs.Search.{how_many}
use Rattle.bits.specs.Tab.{over, blank}
use Rattle.checksum.specs.Checksum.{checksum}
use Rattle.layout.specs.Layout.{first_block, nibbles_of, symbols_of}
use Rattle.layout.specs.declared.Frame.{Frame}
use Rattle.reading.specs.Found.{repaired_at}
use Rattle.reading.specs.Payload.{sent_checksum}
use Rattle.reading.specs.Stages.{grid_of_symbols, read_row, listed, flips, Marked}
use Rattle.lora.specs.Count.{frame_of, count_of}
use Rattle.lora.specs.Head.{first_over, header_found, header_of, head_of}
use Rattle.lora.specs.Read.{unreadable_in_data, sum_holds, accepted_of, byte_found, hurt_found, body_of}
use Rattle.lora.specs.Received.{Received}
use Rattle.lora.specs.declared.opening.Front.{Front}
use Rattle.lora.specs.declared.opening.Opened.{Opened}
use Rattle.lora.specs.declared.receiving.Body.{Body}
use Rattle.lora.specs.declared.shape.Shape.{Shape}
use Rattle.lora.specs.declared.Settings.{Settings}
use Rattle.refusal.specs.Refusal.{refuse}
use Rattle.refusal.specs.declared.Refusal.{Refusal}

-- of the first n symbols the first that is 2^SF or more, if one is
abbrev pub FirstOver : ℕ → List ℕ → ℕ → Option ℕ → Type 0
FirstOver sf symbols n None = first_over sf symbols n 0 ≡ n
FirstOver sf symbols n (Some t) = (first_over sf symbols n 0 ≡ t) × (t < n)

-- head's checks before the header, passed or not
abbrev pub Entered : Result Unit Refusal → ℕ → List ℕ → Type 0
Entered (Ok passed) sf symbols = (7 ≤ sf) × (sf ≤ 12) × (8 ≤ length symbols) × (head_of sf symbols ≡ header_of (header_found sf symbols))
Entered (Err refusal) sf symbols = head_of sf symbols ≡ Err refusal

-- a frame's front, of which the first n codewords were read as a header: block 0 is in the grid, and the repairs and flips among them
-- are counted
pub record Fronts (sf : ℕ) (symbols : List ℕ) (n : ℕ) (front : Front) : Type 0 where
  pub first : front.grid ≡ grid_of_symbols (first_block sf) symbols
  pub repaired : front.repairs ≡ how_many (repaired_at (header_found sf symbols)) n
  pub flipped : front.flips ≡ flips (read_row 4 front.grid) n

-- head says a header, and its front is there; or what it says is refused
abbrev pub Opening : ℕ → List ℕ → Result Opened Refusal → Type 0
Opening sf symbols (Ok o) = (head_of sf symbols ≡ Ok o.header) × Fronts sf symbols 5 o.front
Opening sf symbols (Err refusal) = head_of sf symbols ≡ Err refusal

-- what count says of these settings and this length, and where that is a number, the frame of that many symbols
abbrev pub Shaped : Settings → ℕ → Result Shape Refusal → Type 0
Shaped s len (Ok shape) = (count_of s len ≡ Ok shape.total) × (shape.frame ≡ frame_of s) × (shape.len ≡ len)
Shaped s len (Err refusal) = count_of s len ≡ Err refusal

-- a frame's header was read, or it has none
abbrev pub Headed : Frame → List ℕ → Front → Type 0
Headed F symbols front = Fronts F.sf symbols F.header front

-- the checks of read from 7 on
unfoldable pub data_of : Frame → List ℕ → ℕ → Received
data_of F symbols len =
    check (leb (nibbles_of F len) (unreadable_in_data F symbols len)) (refuse 7 (unreadable_in_data F symbols len))
    (check (sum_holds F symbols len) (refuse 12 0)
    (Ok (accepted_of F symbols len)))

-- the checks of read from the payload's 4 to 6: passed, and then there is room, the whole frame is there below 2^SF and the others
-- decide; or not
abbrev pub Admitted : Result Unit Refusal → Frame → List ℕ → ℕ → ℕ → ℕ → Type 0
Admitted (Ok passed) F symbols room marks len =
    (len ≤ room) × (symbols_of F len ≤ marks) × (symbols_of F len ≤ length symbols)
    × ((t : ℕ) → t < symbols_of F len → get_or symbols t 0 < 2 ^ F.sf) × (body_of F symbols room marks len ≡ data_of F symbols len)
Admitted (Err refusal) F symbols room marks len = body_of F symbols room marks len ≡ Err refusal

-- such a frame, which is there whole and below 2^SF
pub record Decodable (shape : Shape) (symbols : List ℕ) (front : Front) : Type 0 where
  pub headed : Headed shape.frame symbols front
  pub there : shape.total ≤ length symbols
  pub below : (t : ℕ) → t < shape.total → get_or symbols t 0 < 2 ^ shape.frame.sf

-- the checksum of the listed payload is that among the listed nibbles, where there is one
unfoldable pub sum_agrees : Frame → ℕ → List ℕ → List ℕ → Bool
sum_agrees F len payload nibbles =
    cond F.checked (eqb (checksum (take len payload)) (sent_checksum F.header (listed nibbles) len)) true

-- the frame's data are accepted, with the payload's bytes and the symbols' repairs
pub record Held (F : Frame) (symbols : List ℕ) (len : ℕ) (marks : List ℕ) (body : Body) : Type 0 where
  pub says : data_of F symbols len ≡ Ok body.accepted
  pub payload : body.payload ≡ over len (byte_found F symbols) (blank 255 0)
  pub marked : Marked F symbols (nibbles_of F len) (symbols_of F len) marks

-- they are, or they are refused
abbrev pub Decoded : Frame → List ℕ → ℕ → List ℕ → Result Body Refusal → Type 0
Decoded F symbols len marks (Ok body) = Held F symbols len marks body
Decoded F symbols len marks (Err refusal) = data_of F symbols len ≡ Err refusal

-- the lent buffer and the lent list afterwards
abbrev pub bytes_read : Received → Frame → List ℕ → ℕ → List ℕ → List ℕ
bytes_read (Ok a) F symbols len old = over len (byte_found F symbols) old
bytes_read (Err refusal) F symbols len old = old

abbrev pub hurts_read : Received → Frame → List ℕ → ℕ → List ℕ → List ℕ
hurts_read (Ok a) F symbols len old = over (symbols_of F len) (hurt_found F symbols len) old
hurts_read (Err refusal) F symbols len old = old

-- what reading leaves, its answer being the one wanted
pub record Bodied (wanted : Received) (F : Frame) (symbols : List ℕ) (len : ℕ) (old new hurts hurts' : List ℕ) (r : Received) : Type 0 where
  pub answer : r ≡ wanted
  pub cells : new ≡ bytes_read r F symbols len old
  pub marks : hurts' ≡ hurts_read r F symbols len hurts
