-- What reading answers, from what each codeword is found to be.
-- Assumes nothing.
use mathlib.Core.Path.{◌≡◌, refl, sym, ap, ◌∙◌}
use mathlib.Core.Bool.{Bool, true, false, cond}
use mathlib.Core.List.{List, ◌++◌}
use Prim.Native.Nat.{ℕ, ◌+◌, ◌^◌, ◌≤◌, ◌<◌}
use native.Mathlib.Omega.{arith}
use lib.Dec.{leb, eqb}
use lib.ListN.{length, get_or, drop}
use borrow.Author.Tests.{le-leb, lt-leb, leb-true, leb-false, eq-eqb}
use Rattle.bits.specs.Check.{check}
use Rattle.bits.specs.Search.{first, how_many}
use Rattle.bits.specs.Tab.{tab, over}
use Rattle.bits.proofs.Searches.{first-none, first-skip, first-before, first-fewer, first-later}
use Rattle.checksum.specs.Checksum.{checksum}
use Rattle.coding.specs.Nibbles.{frame_nibble}
use Rattle.drift.specs.Drift.{drift_of}
use Rattle.header.specs.Header.{header_nibbles}
use Rattle.header.proofs.HeaderLaws.{header-back}
use Rattle.layout.specs.Layout.{valid_sf, data_nibbles, nibbles_of, symbols_of}
use Rattle.lora.specs.Code.{header_sent, sent_nibble}
use Rattle.layout.proofs.LayoutLaws.{symbols-ge}
use Rattle.lora.specs.Count.{cr_of, checked_of, expected_of, header_length, frame_of}
use Rattle.lora.specs.Head.{is_over, first_over, unreadable_in_header, header_of, head_of}
use Rattle.lora.specs.Read.{nibble_found, byte_found, sum_holds, unreadable_in_data, repairs_of, accepted_of, read_of}
use Rattle.lora.specs.Stages.{data_of}
use Rattle.lora.proofs.HeadLaws.{header-found, header-same}
use Rattle.lora.proofs.ReadLaws.{body-data}
use Rattle.lora.proofs.SendLaws.{sent-length, sent-in-header}
use Rattle.lora.specs.declared.Kind.{Kind}
use Rattle.lora.specs.declared.Kind.TheVariants.{Explicit, Agreed}
use Rattle.lora.specs.declared.Settings.{Settings}
use Rattle.reading.specs.Found.{found_at, unreadable_at, repaired_at, nibble_at}
use Rattle.reading.specs.Payload.{sent_checksum}
use Rattle.promises.specs.Damage.{read_words}
use Rattle.promises.specs.Refusals.{Told}
use Rattle.promises.proofs.Front.{front}
use Rattle.promises.proofs.Near.{Sent}
use Rattle.promises.proofs.Back.{frame-in-header, bytes_back, checksum-back}
use Rattle.std.specs.Prelude.{Ok}
use Rattle.refusal.specs.Refusal.{refuse}

pub sf-holds : (sf : ℕ) → 7 ≤ sf → sf ≤ 12 → valid_sf sf ≡ true
unfolding valid_sf
sf-holds sf a b = rw (le-leb 7 sf a, le-leb sf 12 b)

module _ (s : Settings) (payload arrived : List ℕ) (p : Sent s payload)
    (enough : symbols_of (frame_of s) (length payload) ≤ length arrived)
    (below : (t : ℕ) → t < symbols_of (frame_of s) (length payload) → get_or arrived t 0 < 2 ^ s.sf)
    (good : (i : ℕ) → i < read_words s payload → unreadable_at (found_at (frame_of s) arrived) i ≡ false
    → nibble_at (found_at (frame_of s) arrived) i ≡ sent_nibble (frame_of s) payload i) where
  -- the first codeword that can't be read
  abbrev stop : ℕ
  stop = first (unreadable_at (found_at (frame_of s) arrived)) (read_words s payload) 0

  before-stop : (k : ℕ) → k < stop → unreadable_at (found_at (frame_of s) arrived) k ≡ false
  before-stop k h = first-before (unreadable_at (found_at (frame_of s) arrived)) (read_words s payload) 0 k (omega arith) h

  eight : 8 ≤ symbols_of (frame_of s) (length payload)
  eight = symbols-ge (frame_of s) (length payload)

  -- the header's codewords are among those that are read
  within : (frame_of s).header ≤ read_words s payload
  unfolding read_words nibbles_of
  within = omega arith

  none_over : first_over s.sf arrived 8 0 ≡ 8
  unfolding first_over is_over
  none_over = first-none _ 8 0 (λ t a b. lt-leb _ _ (below t (omega (arith, eight))))

  -- head comes as far as the header, whose codewords are the frame's first five
  head-is : head_of s.sf arrived ≡ header_of (found_at (frame_of s) arrived)
  unfolding head_of
  head-is =
      rw (sf-holds s.sf p.valid.sf-low p.valid.sf-high, le-leb 8 (length arrived) (omega (arith, eight, enough)), none_over)
      (header-same _ _ (λ i l. sym (header-found (frame_of s) arrived p.valid i l)))

  module _ (five : (frame_of s).header ≡ 5) where
    head-refused : stop < 5 → head_of s.sf arrived ≡ refuse 7 stop
    unfolding header_of unreadable_in_header
    head-refused h =
        let e : first (unreadable_at (found_at (frame_of s) arrived)) 5 0 ≡ stop = first-fewer _ 5 _ 0 (omega (arith, five, within)) h in
        head-is ∙ rw (e, lt-leb 5 stop h)

    -- a nibble of the header comes back
    own : 5 ≤ stop → (i : ℕ) → i < 5 → nibble_at (found_at (frame_of s) arrived) i ≡ get_or (header_nibbles (length payload) (cr_of s.kind) (checked_of s.kind)) i 0
    unfolding sent_nibble
    own h i l =
        let inside : i < (frame_of s).header = omega (arith, five) in
        good i (omega (arith, five, within)) (before-stop i (omega arith))
        ∙ frame-in-header _ payload (checked_of s.kind) i (rw (sent-length (frame_of s) (length payload) p.valid) inside)
        ∙ sent-in-header (frame_of s) (length payload) p.valid i inside

    head-says : 5 ≤ stop → head_of s.sf arrived ≡ Ok (record { length = length payload; cr = cr_of s.kind; checked = checked_of s.kind })
    unfolding header_of unreadable_in_header
    head-says h =
        let e : first (unreadable_at (found_at (frame_of s) arrived)) 5 0 ≡ 5 = first-later _ 5 _ 0 h in
        let v = header-back (length payload) (cr_of s.kind) (checked_of s.kind) (nibble_at (found_at (frame_of s) arrived)) (omega (arith, p.short)) p.valid.cr-low p.valid.cr-high (own h) in
        head-is ∙ rw (e, v)

  abbrev header_of_kind : Kind → ℕ
  header_of_kind k = header_length (expected_of k)

  -- the front of the frame: where the header's codewords can be read, or there is none, the reader knows of the payload;
  told : (k : Kind) → s.kind ≡ k → (frame_of s).header ≤ stop → Told k s.sf s.low (length payload) arrived
  told (Explicit cr flag) e h = rw e at (head-says (ap header_of_kind e) (omega (arith, ap header_of_kind e)))
  told (Agreed agreed cr flag) e h =
      let same : ◌≡◌ {A = Settings} s (record { sf = s.sf; low = s.low; kind = Agreed agreed cr flag })
      = ap (λ (x : Kind). record { sf = s.sf; low = s.low; kind = x }) e in
      rw same at p.counted

  -- and else its first codeword that can't be read is refused
  unknown : (k : Kind) → s.kind ≡ k → stop < (frame_of s).header → (room marks : ℕ) → read_of s.sf s.low (expected_of k) arrived room marks ≡ refuse 7 stop
  unfolding read_of
  unknown (Explicit cr flag) e h room marks = rw (head-refused (ap header_of_kind e) (omega (arith, ap header_of_kind e)))
  unknown (Agreed agreed cr flag) e h room marks = absurd (omega (arith, ap header_of_kind e))

  data-first : (frame_of s).header ≤ stop → unreadable_in_data (frame_of s) arrived (length payload) ≡ stop
  unfolding unreadable_in_data read_words nibbles_of
  data-first h =
      let here : 0 + (frame_of s).header ≡ (frame_of s).header = omega arith in
      sym (rw here at (first-skip _ (frame_of s).header (data_nibbles (length payload) (checked_of s.kind)) 0 (λ k a b. before-stop k (omega arith))))

  -- read comes as far as the data codewords
  module _ (room marks : ℕ) (fits : length payload ≤ room) (lists : symbols_of (frame_of s) (length payload) ≤ marks) where
    body_is : (frame_of s).header ≤ stop → read_of s.sf s.low (expected_of s.kind) arrived room marks
        ≡ check (leb (read_words s payload) stop) (refuse 7 stop)
        (check (sum_holds (frame_of s) arrived (length payload)) (refuse 12 0) (Ok (accepted_of (frame_of s) arrived (length payload))))
    unfolding data_of read_words
    body_is h =
        front s.kind s.sf s.low (length payload) arrived (told s.kind refl h) room marks
        ∙ body-data (frame_of s) arrived room marks (length payload) fits lists enough below ∙ rw (data-first h)

    -- a codeword can't be read, of the header or of the data
    pub read-refused : stop < read_words s payload → read_of s.sf s.low (expected_of s.kind) arrived room marks ≡ refuse 7 stop
    read-refused l = by (leb (frame_of s).header stop) refl
      where
        by : (t : Bool) → leb (frame_of s).header stop ≡ t → read_of s.sf s.low (expected_of s.kind) arrived room marks ≡ refuse 7 stop
        by true e = body_is (leb-true (frame_of s).header stop e) ∙ rw (lt-leb (read_words s payload) stop l)
        by false e = unknown s.kind refl (leb-false (frame_of s).header stop e) room marks

  -- all can be read
  module _ (all : stop ≡ read_words s payload) where
    nibble-back : (i : ℕ) → i < length (header_sent (frame_of s) (length payload)) + data_nibbles (length payload) (checked_of s.kind)
        → nibble_found (frame_of s) arrived i ≡ frame_nibble (header_sent (frame_of s) (length payload)) payload (checked_of s.kind) i
    unfolding nibble_found sent_nibble read_words nibbles_of
    nibble-back i h =
        let l : i < (frame_of s).header + data_nibbles (length payload) (checked_of s.kind) = omega (arith, sent-length (frame_of s) (length payload) p.valid) in
        good i l (before-stop i (omega (arith, all)))

    pub payload-is : tab (length payload) (byte_found (frame_of s) arrived) ≡ payload
    unfolding byte_found
    payload-is = rw (sent-length (frame_of s) (length payload) p.valid) at (bytes_back _ payload (checked_of s.kind) _ nibble-back)

    sum-holds : sum_holds (frame_of s) arrived (length payload) ≡ true
    unfolding sum_holds
    sum-holds = by (checked_of s.kind) refl
      where
        by : (flag : Bool) → checked_of s.kind ≡ flag
            → cond flag (eqb (checksum (tab (length payload) (byte_found (frame_of s) arrived))) (sent_checksum (frame_of s).header (nibble_found (frame_of s) arrived) (length payload))) true ≡ true
        by false e = refl
        by true e =
            let sum = rw (sent-length (frame_of s) (length payload) p.valid) at (checksum-back _ payload (checked_of s.kind) _ nibble-back e) in
            eq-eqb _ _ (ap checksum payload-is ∙ sym sum)

    pub read_whole : (room marks : ℕ) → length payload ≤ room → symbols_of (frame_of s) (length payload) ≤ marks → read_of s.sf s.low (expected_of s.kind) arrived room marks
        ≡ Ok (record {
          length = length payload;
          cr = cr_of s.kind;
          checked = checked_of s.kind;
          symbols = symbols_of (frame_of s) (length payload);
          repairs = how_many (repaired_at (found_at (frame_of s) arrived)) (read_words s payload);
          drift = drift_of s.sf (get_or arrived 0 0);
        })
    unfolding accepted_of repairs_of read_words
    read_whole room marks fits lists =
        let h : (frame_of s).header ≤ stop = omega (arith, within, all) in
        body_is room marks fits lists h ∙ rw (all, le-leb (read_words s payload) (read_words s payload) (omega arith), sum-holds)

    -- and the payload's cells are the payload
    pub cells_are : (old : List ℕ) → over (length payload) (byte_found (frame_of s) arrived) old ≡ payload ++ drop (length payload) old
    cells_are old = ap (λ (l : List ℕ). l ++ drop (length payload) old) payload-is
