-- What a run over a frame's data codewords says of the frame, and what the checks of read leave.
-- Assumes nothing.
use mathlib.Core.Path.{◌≡◌, refl, sym, ap, ap₂, ◌∙◌}
use mathlib.Core.Bool.{Bool, true, false, cond}
use mathlib.Core.List.{List}
use Prim.Native.Nat.{ℕ, ◌+◌, ◌-◌, ◌^◌, ◌<◌, ◌≤◌}
use native.Mathlib.Nat.{add-zero}
use native.Mathlib.Omega.{arith}
use lib.Dec.{eqb}
use lib.IntN.{ℤ}
use lib.ListN.{length, get_or, take, drop}
use lib.Seq.{take_at, length-take-le, get_or-take}
use borrow.Author.Tests.{lt-leb, le-leb, leb-false}
use Rattle.std.specs.Prelude.{Ok}
use Rattle.bits.specs.Search.{first, how_many}
use Rattle.bits.specs.Tab.{tab, over, blank}
use Rattle.bits.proofs.Searches.{first_range, first-none, first-before, first-shift, how_many-add, how_many-cong, how_many-le}
use Rattle.bits.proofs.Tabs.{length-blank, length-tab, over-cong, tab-cong, tab-get_or}
use Rattle.checksum.specs.Checksum.{checksum}
use Rattle.codeword.specs.Codeword.{is_repaired}
use Rattle.drift.specs.Drift.{drift_of}
use Rattle.header.specs.declared.Header.{Header}
use Rattle.layout.specs.Layout.{first_block, data_nibbles, nibbles_of, symbols_of}
use Rattle.layout.specs.Ranges.{Valid}
use Rattle.layout.specs.declared.Frame.{Frame}
use Rattle.layout.proofs.LayoutLaws.{data-le, symbols-le}
use Rattle.reading.specs.Found.{found_at, unreadable_at, repaired_at}
use Rattle.reading.specs.Payload.{payload_byte, sent_checksum}
use Rattle.reading.specs.Stages.{grid_of_symbols, read_row, data_found, listed, Walk, Marked}
use Rattle.reading.proofs.HurtLaws.{flips-none}
use Rattle.reading.proofs.ReadingLaws.{blank-small, nibble-data-lt, walk-nibbles, walk-small, payload-cong, checksum-cong}
use Rattle.lora.specs.Head.{is_over, first_over}
use Rattle.lora.specs.Read.{over_in_frame, unreadable_in_data, nibble_found, byte_found, sum_holds, repairs_of, hurt_found, accepted_of, body_of, frame_said}
use Rattle.lora.specs.Stages.{sum_agrees, Headed, data_of}
use Rattle.lora.specs.declared.opening.Front.{Front}
use Rattle.lora.specs.declared.shape.Shape.{Shape}
use Rattle.lora.specs.declared.Expected.TheVariants.{Explicit}
use Rattle.refusal.specs.Refusal.{refuse}
use Rattle.lora.proofs.HeadLaws.{Heads, header-found}

-- the nibbles of a frame without its header's are its data
module _ (F : Frame) (len : ℕ) {n : ℕ} (is : n ≡ nibbles_of F len) where
  pub data_is : n - F.header ≡ data_nibbles len F.checked
  unfolding nibbles_of
  data_is = omega (arith, is)

  pub whole_is : F.header + (n - F.header) ≡ nibbles_of F len
  unfolding nibbles_of
  whole_is = omega (arith, is)

-- a run over the data codewords of a frame whose header was read with so many repairs
pub record Run (F : Frame) (symbols : List ℕ) (len before : ℕ) (nibbles : List ℕ) (end repairs : ℕ) : Type 0 where
  pub valid : Valid F
  pub short : len ≤ 255
  pub header : before ≡ how_many (repaired_at (found_at F symbols)) F.header
  pub walk : Walk (data_found F symbols) (data_nibbles len F.checked) F.header (blank 519 0) nibbles end repairs

pub run : (shape : Shape) {symbols : List ℕ} {front : Front} {n : ℕ} {nibbles : List ℕ} {end repairs : ℕ} → Headed shape.frame symbols front → n ≡ nibbles_of shape.frame shape.len
    → Walk (data_found shape.frame symbols) (n - shape.frame.header) shape.frame.header (blank 519 0) nibbles end repairs
    → Run shape.frame symbols shape.len front.repairs nibbles end repairs
run shape {symbols} h e w =
    record {
      valid = shape.valid;
      short = shape.short;
      header = h.repaired ∙ how_many-cong _ _ shape.frame.header (λ i l. ap is_repaired (sym (header-found shape.frame symbols shape.valid i (omega (arith, shape.valid.header-high)))));
      walk = rw (data_is shape.frame shape.len e) at w;
    }

module _ {F : Frame} {symbols : List ℕ} {len before : ℕ} {nibbles : List ℕ} {end repairs : ℕ} (w : Run F symbols len before nibbles end repairs) where
  room : F.header ≤ length (blank {A = ℕ} 519 0)
  room = omega (arith, length-blank {A = ℕ} 519 0, w.valid.header-high)

  -- it leaves nibbles
  pub run_small : (i : ℕ) → get_or nibbles i 0 < 16
  run_small = walk-small w.walk room (nibble-data-lt F symbols) (blank-small 519)

  -- it ends at the first data codeword that can't be read
  pub run_ends : F.header + end ≡ unreadable_in_data F symbols len
  unfolding unreadable_in_data data_found
  run_ends =
      ap (λ (k : ℕ). F.header + k) w.walk.ends
      ∙ sym (first-shift (unreadable_at (found_at F symbols)) F.header (data_nibbles len F.checked) 0)
      ∙ ap (first (unreadable_at (found_at F symbols)) (data_nibbles len F.checked)) (add-zero F.header)

  -- at most behind the last
  pub run-le : end ≤ data_nibbles len F.checked
  run-le = omega (arith, w.walk.ends, first_range (unreadable_at (data_found F symbols)) (data_nibbles len F.checked) 0)

  -- a frame has at most 514 of them
  pub read_few : end ≤ 514
  read_few = omega (arith, run-le, data-le len F.checked w.short)

  -- with no more repairs than codewords
  pub run-few : before + repairs ≤ F.header + end
  run-few =
      omega (
        arith,
        w.header,
        how_many-le (repaired_at (found_at F symbols)) F.header,
        w.walk.counts,
        how_many-le (repaired_at (data_found F symbols)) end,
      )

  -- a run that met none
  module _ (whole : nibbles_of F len ≤ F.header + end) where
    run_end : end ≡ data_nibbles len F.checked
    unfolding nibbles_of
    run_end = omega (arith, run-le)

    -- it leaves each data nibble
    run-nibbles : (i : ℕ) → i < data_nibbles len F.checked → listed nibbles (F.header + i) ≡ nibble_found F symbols (F.header + i)
    unfolding listed nibble_found data_found
    run-nibbles i l = walk-nibbles w.walk room i (omega (arith, run_end))

    -- and with them each byte
    run-byte : (p : ℕ) → p < len → payload_byte F.header (listed nibbles) p ≡ byte_found F symbols p
    unfolding byte_found data_nibbles
    run-byte p l = payload-cong F.header (data_nibbles len F.checked) (listed nibbles) _ run-nibbles p (omega arith)

    -- the payload read is the frame's
    pub run-payload : (d : List ℕ) → over len (payload_byte F.header (listed nibbles)) d ≡ over len (byte_found F symbols) d
    run-payload d = over-cong len _ _ d run-byte

    -- its checksum holds where the frame's does
    pub run-sum : {payload : List ℕ} (d : List ℕ) → payload ≡ over len (payload_byte F.header (listed nibbles)) d
        → sum_agrees F len payload nibbles ≡ sum_holds F symbols len
    unfolding sum_agrees sum_holds data_nibbles
    run-sum {payload} d e = at F.checked refl
      where
        bytes : take len payload ≡ tab len (byte_found F symbols)
        bytes = rw (e ∙ run-payload d) (take_at (tab len (byte_found F symbols)) (drop len d) len (length-tab len _))

        at : (b : Bool) → F.checked ≡ b
            → cond b (eqb (checksum (take len payload)) (sent_checksum F.header (listed nibbles) len)) true
            ≡ cond b (eqb (checksum (tab len (byte_found F symbols))) (sent_checksum F.header (nibble_found F symbols) len)) true
        at true f =
            ap₂ (λ (x : List ℕ) (y : ℕ). eqb (checksum x) y) bytes
            (checksum-cong F.header (data_nibbles len F.checked) (listed nibbles) _ run-nibbles len (rw f (omega arith)))
        at false f = refl

    -- its repairs and the header's are the frame's
    pub run-repairs : before + repairs ≡ repairs_of F symbols len
    unfolding repairs_of nibbles_of data_found
    run-repairs =
        ap₂ (λ (x y : ℕ). x + y) w.header (w.walk.counts ∙ ap (how_many (λ i. repaired_at (found_at F symbols) (F.header + i))) run_end)
        ∙ sym (how_many-add (repaired_at (found_at F symbols)) F.header (data_nibbles len F.checked))

  -- the three answers: a codeword that can't be read, a checksum that disagrees, and the payload
  pub says-unreadable : F.header + end < nibbles_of F len → refuse 7 (F.header + end) ≡ data_of F symbols len
  unfolding data_of
  says-unreadable l = rw (← run_ends, lt-leb _ _ l)

  pub says-twelve : (payload d : List ℕ) → nibbles_of F len ≤ F.header + end → payload ≡ over len (payload_byte F.header (listed nibbles)) d
      → sum_agrees F len payload nibbles ≡ false → refuse 12 0 ≡ data_of F symbols len
  unfolding data_of
  says-twelve payload d l e f = rw (← run_ends, le-leb _ _ l, ← run-sum l d e, f)

  pub says-payload : {drift : ℤ} (payload d : List ℕ) → drift ≡ drift_of F.sf (get_or symbols 0 0) → nibbles_of F len ≤ F.header + end → payload ≡ over len (payload_byte F.header (listed nibbles)) d
      → sum_agrees F len payload nibbles ≡ true
      → Ok (record {
        length = len;
        cr = F.cr;
        checked = F.checked;
        symbols = symbols_of F len;
        repairs = before + repairs;
        drift = drift;
      })
      ≡ data_of F symbols len
  unfolding data_of accepted_of
  says-payload payload d is l e f =
      ap (λ (x : ℤ). Ok (record { length = len; cr = F.cr; checked = F.checked; symbols = symbols_of F len; repairs = before + repairs; drift = x })) is
      ∙ rw (← run_ends, le-leb _ _ l, ← run-sum l d e, f, run-repairs l)

-- the checks behind the header, in their order
module _ (F : Frame) (symbols : List ℕ) (room marks len : ℕ) where
  pub says_four : room < len → body_of F symbols room marks len ≡ refuse 4 len
  unfolding body_of
  says_four h = rw (lt-leb _ _ h)

  module _ {total : ℕ} (is : total ≡ symbols_of F len) (fits : len ≤ room) where
    pub says-four-marks : marks < total → body_of F symbols room marks len ≡ refuse 4 total
    unfolding body_of
    says-four-marks h = rw (← is, le-leb _ _ fits, lt-leb _ _ h)

    module _ (listed : total ≤ marks) where
      pub says_five : length symbols < total → body_of F symbols room marks len ≡ refuse 5 total
      unfolding body_of
      says_five h = rw (← is, le-leb _ _ fits, le-leb _ _ listed, lt-leb _ _ h)

      module _ {over : ℕ} (there : total ≤ length symbols) (found : over ≡ over_in_frame F symbols len) where
        pub says_six : over < total → body_of F symbols room marks len ≡ refuse 6 over
        unfolding body_of
        says_six h = rw (← is, ← found, le-leb _ _ fits, le-leb _ _ listed, le-leb _ _ there, lt-leb _ _ h)

        pub says-data : total ≤ over → body_of F symbols room marks len ≡ data_of F symbols len
        unfolding body_of data_of
        says-data h = rw (← is, ← found, le-leb _ _ fits, le-leb _ _ listed, le-leb _ _ there, le-leb _ _ h)

-- of a frame that is there whole, each symbol below 2^SF, the checks from 7 on decide
pub body-data : (F : Frame) (symbols : List ℕ) (room marks len : ℕ) → len ≤ room → symbols_of F len ≤ marks → symbols_of F len ≤ length symbols
    → ((t : ℕ) → t < symbols_of F len → get_or symbols t 0 < 2 ^ F.sf) → body_of F symbols room marks len ≡ data_of F symbols len
unfolding over_in_frame first_over is_over
body-data F symbols room marks len fits lists there below =
    let none = first-none (is_over F.sf symbols) (symbols_of F len) 0 (λ t a b. lt-leb _ _ (below t (omega arith))) in
    says-data F symbols room marks len refl fits lists there refl (omega (arith, none))

-- where none of its symbols is 2^SF or more, each is below
pub all-below : (F : Frame) (symbols : List ℕ) (len : ℕ) → symbols_of F len ≤ over_in_frame F symbols len
    → (t : ℕ) → t < symbols_of F len → get_or symbols t 0 < 2 ^ F.sf
unfolding over_in_frame first_over is_over
all-below F symbols len h t l =
    leb-false (2 ^ F.sf) (get_or symbols t 0) (first-before (is_over F.sf symbols) (symbols_of F len) 0 t (omega arith) (omega arith))

-- a frame has at most 832 symbols
pub whole-le : (shape : Shape) → shape.total ≤ 832
whole-le shape = omega (arith, shape.whole, symbols-le shape.frame shape.len shape.valid shape.short)

-- the front of what was read: the payload's bytes, and the symbols' marks
pub front-payload : {payload : List ℕ} (F : Frame) (symbols : List ℕ) (len : ℕ) → payload ≡ over len (byte_found F symbols) (blank 255 0) → take len payload ≡ tab len (byte_found F symbols)
front-payload F symbols len e = rw e (take_at (tab len (byte_found F symbols)) (drop len (blank 255 0)) len (length-tab len _))

pub front-marks : {marks : List ℕ} (F : Frame) (symbols : List ℕ) (len : ℕ) → symbols_of F len ≤ 832 → Marked F symbols (nibbles_of F len) (symbols_of F len) marks
    → take (symbols_of F len) marks ≡ tab (symbols_of F len) (hurt_found F symbols len)
unfolding hurt_found
front-marks {marks} F symbols len few m =
    let n = symbols_of F len in
    sym (tab-get_or (take n marks) 0) ∙ rw (length-take-le n marks (omega (arith, few, m.long))) (tab-cong n _ _ (λ i l. get_or-take n marks i 0 l ∙ m.cells i l))

-- where head says a header, the frame behind it is valid
pub said_valid : (sf : ℕ) (low : Bool) (h : Header) → Heads sf h → Valid (frame_said sf low Explicit h.cr h.checked)
said_valid sf low h p = record { sf-low = p.sf-low; sf-high = p.sf-high; cr-low = p.cr-low; cr-high = p.cr-high; header-high = omega arith }

-- a frame that has no header, from its first codeword on
pub unheaded : (F : Frame) (symbols : List ℕ) {grid : List (List Bool)} → F.header ≡ 0 → grid ≡ grid_of_symbols (first_block F.sf) symbols
    → Headed F symbols (record { grid = grid; repairs = 0; flips = 0 })
unfolding how_many
unheaded F symbols {grid} none g =
    record { first = g; repaired = rw none; flipped = rw none (flips-none (read_row 4 grid)) }
