-- The operation read. Where a header is expected it checks what head checks; without one, by the agreed values, 1, 2, 3. Then 4 for the
-- payload; 4 for the list of hurt symbols; 5 for the whole frame; 6 over it; 7 over data codewords in frame order; 12. Symbols after
-- the frame's own are ignored, fillers are skipped.
-- Assumes nothing.
use Rattle.std.specs.Prelude.{Bool, true, cond, List, ◌≡◌, ℕ, leb, eqb, length, get_or, Result, Ok, Err}
use Rattle.bits.specs.Check.{check}
use Rattle.bits.specs.Search.{first, how_many}
use Rattle.bits.specs.Tab.{tab, over}
use Rattle.checksum.specs.Checksum.{checksum}
use Rattle.drift.specs.Drift.{drift_of}
use Rattle.header.specs.declared.Header.{Header}
use Rattle.layout.specs.Layout.{data_nibbles, nibbles_of, symbols_of}
use Rattle.layout.specs.declared.Frame.{Frame}
use Rattle.reading.specs.Found.{found_at, unreadable_at, repaired_at, nibble_at, hurt_at}
use Rattle.reading.specs.Payload.{payload_byte, sent_checksum}
use Rattle.refusal.specs.Refusal.{refuse}
use Rattle.refusal.specs.declared.Refusal.{Refusal}
use Rattle.lora.specs.Count.{header_length, frame_of, count_of}
use Rattle.lora.specs.Head.{first_over, head_of}
use Rattle.lora.specs.Received.{Received}
use Rattle.lora.specs.declared.Accepted.{Accepted}
use Rattle.lora.specs.declared.Expected.{Expected}
use Rattle.lora.specs.declared.Expected.TheVariants.{Explicit, Agreed}
use Rattle.lora.specs.declared.Kind.TheVariants as kind
use Rattle.lora.specs.declared.Settings.{Settings}

-- 6 over the whole frame: its first symbol that is 2^SF or more. Behind a header that is one of the rest, since head gives 6 for the
-- first eight
unfoldable pub over_in_frame : Frame → List ℕ → ℕ → ℕ
over_in_frame F symbols len = first_over F.sf symbols (symbols_of F len) 0

-- 7 over data codewords in frame order: the first that can't be read
unfoldable pub unreadable_in_data : Frame → List ℕ → ℕ → ℕ
unreadable_in_data F symbols len = first (unreadable_at (found_at F symbols)) (data_nibbles len F.checked) F.header

-- the nibble that codeword i is read as, and byte p of the payload
unfoldable pub nibble_found : Frame → List ℕ → ℕ → ℕ
nibble_found F symbols = nibble_at (found_at F symbols)

unfoldable pub byte_found : Frame → List ℕ → ℕ → ℕ
byte_found F symbols = payload_byte F.header (nibble_found F symbols)

-- 12: with the checksum flag on, the remainder of the payload read is the checksum read
unfoldable pub sum_holds : Frame → List ℕ → ℕ → Bool
sum_holds F symbols len =
    cond F.checked (eqb (checksum (tab len (byte_found F symbols))) (sent_checksum F.header (nibble_found F symbols) len)) true

-- the read codewords, header included and fillers not, that were one bit from the code
unfoldable pub repairs_of : Frame → List ℕ → ℕ → ℕ
repairs_of F symbols len = how_many (repaired_at (found_at F symbols)) (nibbles_of F len)

-- the repaired bits in symbol t, over the same codewords
unfoldable pub hurt_found : Frame → List ℕ → ℕ → ℕ → ℕ
hurt_found F symbols len = hurt_at F symbols (nibbles_of F len)

-- the drift is the first symbol's
unfoldable pub accepted_of : Frame → List ℕ → ℕ → Accepted
accepted_of F symbols len =
    record {
      length = len;
      cr = F.cr;
      checked = F.checked;
      symbols = symbols_of F len;
      repairs = repairs_of F symbols len;
      drift = drift_of F.sf (get_or symbols 0 0);
    }

-- what is checked of a frame whose shape and length are known, and the answer: there is room for so many bytes of payload, and for so many symbols' repairs
unfoldable pub body_of : Frame → List ℕ → ℕ → ℕ → ℕ → Received
body_of F symbols room marks len =
    check (leb len room) (refuse 4 len)
    (check (leb (symbols_of F len) marks) (refuse 4 (symbols_of F len))
    (check (leb (symbols_of F len) (length symbols)) (refuse 5 (symbols_of F len))
    (check (leb (symbols_of F len) (over_in_frame F symbols len)) (refuse 6 (over_in_frame F symbols len))
    (check (leb (nibbles_of F len) (unreadable_in_data F symbols len)) (refuse 7 (unreadable_in_data F symbols len))
    (check (sum_holds F symbols len) (refuse 12 0)
    (Ok (accepted_of F symbols len)))))))

-- the shape of a frame with this CR and this checksum flag, as its header says or as was agreed
abbrev pub frame_said : ℕ → Bool → Expected → ℕ → Bool → Frame
frame_said sf low expected cr flag = record { sf = sf; low = low; cr = cr; checked = flag; header = header_length expected }

-- with a header: head's checks, then those of the frame that it says
abbrev pub onward : Result Header Refusal → ℕ → Bool → List ℕ → ℕ → ℕ → Received
onward (Err refusal) sf low symbols room marks = Err refusal
onward (Ok h) sf low symbols room marks = body_of (frame_said sf low Explicit h.cr h.checked) symbols room marks h.length

-- without one: 1, 2, 3, as count checks them, then those of the frame that was agreed
abbrev pub agreed_on : Result ℕ Refusal → Frame → ℕ → List ℕ → ℕ → ℕ → Received
agreed_on (Err refusal) F len symbols room marks = Err refusal
agreed_on (Ok count) F len symbols room marks = body_of F symbols room marks len

unfoldable pub read_of : ℕ → Bool → Expected → List ℕ → ℕ → ℕ → Received
read_of sf low Explicit symbols room marks = onward (head_of sf symbols) sf low symbols room marks
read_of sf low (Agreed len cr flag) symbols room marks =
    let s : Settings = record { sf = sf; low = low; kind = kind.Agreed len cr flag } in
    agreed_on (count_of s len) (frame_of s) len symbols room marks

-- the lent buffer afterwards: the payload and what stood behind it; after a refusal as it was
abbrev pub bytes_after : Received → ℕ → Bool → Expected → List ℕ → List ℕ → List ℕ
bytes_after (Ok a) sf low expected symbols old = over a.length (byte_found (frame_said sf low expected a.cr a.checked) symbols) old
bytes_after (Err refusal) sf low expected symbols old = old

-- and the lent list: the repaired bits in each symbol used and what stood behind them; after a refusal as it was
abbrev pub hurts_after : Received → ℕ → Bool → Expected → List ℕ → List ℕ → List ℕ
hurts_after (Ok a) sf low expected symbols old = over a.symbols (hurt_found (frame_said sf low expected a.cr a.checked) symbols a.length) old
hurts_after (Err refusal) sf low expected symbols old = old

pub record Reading (sf : ℕ) (low : Bool) (expected : Expected) (symbols old new hurts hurts' : List ℕ) (r : Received) : Type 0 where
  pub answer : r ≡ read_of sf low expected symbols (length old) (length hurts)
  pub cells : new ≡ bytes_after r sf low expected symbols old
  pub marks : hurts' ≡ hurts_after r sf low expected symbols hurts
