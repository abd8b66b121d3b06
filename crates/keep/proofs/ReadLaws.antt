-- What read answers fits the numbers of an entry.
-- Assumes nothing.
use mathlib.Core.Path.{◌≡◌, refl}
use mathlib.Core.Bool.{Bool, true, false}
use mathlib.Core.List.{List}
use Prim.Native.Nat.{ℕ, ◌≤◌}
use native.Mathlib.Omega.{arith}
use Rattle.std.specs.Prelude.{Result, Ok, Err}
use Rattle.bits.specs.Check.{check}
use Rattle.bits.specs.Tab.{tab}
use Rattle.bits.proofs.Searches.{first_range, how_many-le}
use Rattle.header.specs.Header.{checks_hold, zeros_hold, rate_holds, header_in, verdict_of}
use Rattle.header.specs.declared.Header.{Header}
use Rattle.layout.specs.Layout.{valid_sf, valid_cr, nibbles_of, symbols_of}
use Rattle.layout.specs.Ranges.{Valid}
use Rattle.layout.specs.declared.Frame.{Frame}
use Rattle.layout.proofs.LayoutLaws.{nibbles-le, symbols-le}
use Rattle.lora.specs.Count.{cr_of, frame_of, takes, count_of}
use Rattle.lora.specs.Head.{is_over, first_over, header_found, head_of}
use Rattle.lora.specs.Read.{over_in_frame, repairs_of, accepted_of, body_of, frame_said, onward, agreed_on, read_of}
use Rattle.lora.specs.declared.Expected.{Expected}
use Rattle.lora.specs.declared.Expected.TheVariants.{Explicit, Agreed}
use Rattle.lora.specs.declared.Kind.TheVariants as kind
use Rattle.lora.specs.declared.Settings.{Settings}
use Rattle.lora.proofs.AnswerLaws.{body-cases}
use Rattle.lora.proofs.CountLaws.{counted}
use Rattle.lora.proofs.HeadLaws.{head-cases, head-sound}
use Rattle.reading.specs.Found.{found_at, repaired_at, nibble_at}
use Rattle.refusal.specs.Refusal.{refuse}
use Rattle.refusal.specs.declared.Refusal.{Refusal}
use Rattle.keep.specs.Heard.{Fits, Read}

-- a refusal's place, of an answer of head
abbrev Placed : Result Header Refusal → Type 0
Placed (Ok h) = Unit
Placed (Err e) = e.place ≤ 65535

verdict-placed : (h : List ℕ) → Placed (verdict_of h)
unfolding verdict_of
verdict-placed h = go (checks_hold h) (zeros_hold h) (rate_holds h)
  where
    go : (t u v : Bool) → Placed (check t (refuse 9 0) (check u (refuse 10 0) (check v (refuse 11 0) (Ok (header_in h)))))
    go true true true = tt
    go true true false = omega arith
    go true false v = omega arith
    go false u v = omega arith

module _ (sf : ℕ) (symbols : List ℕ) where
  over-le : first_over sf symbols 8 0 ≤ 65535
  unfolding first_over
  over-le = omega (arith, first_range (is_over sf symbols) 8 0)

  head-placed : Placed (head_of sf symbols)
  head-placed =
      head-cases sf symbols Placed (omega arith) (omega arith) over-le (λ low l. omega arith)
      (λ low high. verdict-placed (tab 5 (nibble_at (header_found sf symbols))))

module _ (F : Frame) (symbols : List ℕ) (len : ℕ) (v : Valid F) (short : len ≤ 255) where
  over-frame-le : over_in_frame F symbols len ≤ 65535
  unfolding over_in_frame first_over
  over-frame-le = omega (arith, first_range (is_over F.sf symbols) (symbols_of F len) 0, symbols-le F len v short)

  total-le : symbols_of F len ≤ 65535
  total-le = omega (arith, symbols-le F len v short)

  fits : Fits (accepted_of F symbols len)
  unfolding accepted_of repairs_of
  fits = record { short = short; few = omega (arith, how_many-le (repaired_at (found_at F symbols)) (nibbles_of F len), nibbles-le F len v short) }

  body-fits : (room marks : ℕ) → Read (body_of F symbols room marks len)
  body-fits room marks =
      body-cases F symbols room marks len Read (omega arith) total-le total-le over-frame-le (λ l. omega (arith, nibbles-le F len v short)) (omega arith) (λ room lists below. fits)

-- with a header, and without one
explicit-fits : (sf : ℕ) (low : Bool) (symbols : List ℕ) (room marks : ℕ) → Read (read_of sf low Explicit symbols room marks)
unfolding read_of
explicit-fits sf low symbols room marks = by (head_of sf symbols) refl (head-placed sf symbols)
  where
    by : (h : Result Header Refusal) → head_of sf symbols ≡ h → Placed h → Read (onward h sf low symbols room marks)
    by (Err refusal) e p = p
    by (Ok h) e p =
        let k = head-sound sf symbols h e in
        body-fits (frame_said sf low Explicit h.cr h.checked) symbols h.length
        (record { sf-low = k.sf-low; sf-high = k.sf-high; cr-low = k.cr-low; cr-high = k.cr-high; header-high = omega arith }) k.short room marks

-- count's refusals have place 0
abbrev Nowhere : Result ℕ Refusal → Type 0
Nowhere (Ok count) = Unit
Nowhere (Err e) = e.place ≡ 0

count-nowhere : (s : Settings) (len : ℕ) → Nowhere (count_of s len)
unfolding count_of
count-nowhere s len = go (valid_sf s.sf) (valid_cr (cr_of s.kind)) (takes s.kind len)
  where
    go : (t u v : Bool) → Nowhere (check t (refuse 1 0) (check u (refuse 2 0) (check v (refuse 3 0) (Ok (symbols_of (frame_of s) len)))))
    go true true true = tt
    go true true false = refl
    go true false v = refl
    go false u v = refl

agreed-fits : (sf : ℕ) (low : Bool) (len cr : ℕ) (flag : Bool) (symbols : List ℕ) (room marks : ℕ) → Read (read_of sf low (Agreed len cr flag) symbols room marks)
unfolding read_of
agreed-fits sf low len cr flag symbols room marks = by (count_of s len) refl (count-nowhere s len)
  where
    s : Settings
    s = record { sf = sf; low = low; kind = kind.Agreed len cr flag }

    by : (n : Result ℕ Refusal) → count_of s len ≡ n → Nowhere n → Read (agreed_on n (frame_of s) len symbols room marks)
    by (Err refusal) e p = omega arith
    by (Ok count) e p =
        let k = counted s len count e in
        body-fits (frame_of s) symbols len k.settings k.short room marks

pub read_fits : (sf : ℕ) (low : Bool) (expected : Expected) (symbols : List ℕ) (room marks : ℕ) → Read (read_of sf low expected symbols room marks)
read_fits sf low Explicit symbols room marks = explicit-fits sf low symbols room marks
read_fits sf low (Agreed len cr flag) symbols room marks = agreed-fits sf low len cr flag symbols room marks
