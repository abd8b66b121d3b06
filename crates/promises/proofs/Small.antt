-- Smaller promises that users rely on.
-- Assumes nothing.
use mathlib.Core.Path.{◌≡◌, refl, sym, ◌∙◌}
use mathlib.Core.Bool.{Bool, true, false}
use mathlib.Core.List.{List}
use Prim.Native.Nat.{ℕ, ◌+◌, ◌-◌, ◌*◌, ◌/◌, ◌^◌, ◌≤◌, ◌<◌}
use native.Mathlib.Nat.{div-add-mod'}
use native.Mathlib.Omega.{arith}
use lib.Dec.{leb}
use lib.ListN.{length, get_or}
use borrow.Author.Tests.{le-leb, leb-true}
use Rattle.bits.specs.Check.{check}
use Rattle.bits.specs.Search.{how_many}
use Rattle.bits.proofs.Searches.{first-skip, first-before}
use Rattle.drift.specs.Drift.{drift_of}
use Rattle.layout.specs.Layout.{valid_sf, valid_cr, rows_of_first, rows_of_later, data_nibbles, nibbles_of, remaining, later_blocks, symbol_count, symbols_of}
use Rattle.layout.specs.Ranges.{Valid}
use Rattle.layout.proofs.LayoutLaws.{symbols-le, no-later}
use Rattle.lora.specs.Airtime.{valid_bandwidth, dividend, microseconds, lasting, airtime_of}
use Rattle.lora.specs.Code.{fitting, code_of, Coding}
use Rattle.lora.specs.Count.{frame_of, takes, count_of}
use Rattle.header.specs.declared.Header.{Header}
use Rattle.lora.specs.Head.{is_over, first_over, header_found, header_of, head_of}
use Rattle.lora.specs.Read.{unreadable_in_data, sum_holds, repairs_of, accepted_of, read_of}
use Rattle.lora.specs.Stages.{data_of}
use Rattle.lora.specs.declared.Accepted.{Accepted}
use Rattle.lora.specs.declared.Expected.TheVariants.{Explicit, Agreed}
use Rattle.lora.specs.declared.Kind.TheVariants as kind
use Rattle.lora.specs.declared.Settings.{Settings}
use Rattle.lora.proofs.AnswerLaws.{accepts}
use Rattle.lora.proofs.CountLaws.{counted}
use Rattle.lora.proofs.ReadLaws.{body-data}
use Rattle.lora.proofs.TimeLaws.{whole}
use Rattle.promises.proofs.Front.{front}
use Rattle.promises.proofs.Unchanged.{below-limit}
use Rattle.std.specs.Prelude.{Result, Ok, Err}
use Rattle.refusal.specs.Refusal.{refuse}
use Rattle.refusal.specs.declared.Refusal.{Refusal}

-- what code writes is below 2^SF
pub code_below : {s : Settings} {payload old sent : List ℕ} {count : ℕ} → Coding s payload old sent (Ok count) → (t : ℕ) → t < count
    → get_or sent t 0 < 2 ^ s.sf
code_below c = below-limit c

-- the count that code answers is what count answers
pub code-counts : (s : Settings) (payload old new : List ℕ) (count : ℕ) → Coding s payload old new (Ok count) → count_of s (length payload) ≡ Ok count
unfolding code_of
code-counts s payload old new count c = one (count_of s (length payload)) (sym c.answer)
  where
    two : (n : ℕ) (t : Bool) → check t (refuse 4 n) (Ok n) ≡ Ok count → ◌≡◌ {A = Result ℕ Refusal} (Ok n) (Ok count)
    two n true e = e
    two n false e = absurd (let z : ◌≡◌ {A = ℕ} 0 1 = cc in omega arith)

    one : (r : Result ℕ Refusal) → fitting r (length old) ≡ Ok count → r ≡ Ok count
    one (Err r) e = e
    one (Ok n) e = two n (leb n (length old)) e

-- never more than 832 symbols, and as many at SF 7, low rate, CR 4, 255 bytes, checksum on
pub count_most : (s : Settings) (len count : ℕ) → count_of s len ≡ Ok count → count ≤ 832
count_most s len count e =
    let k = counted s len count e in
    rw k.is (symbols-le (frame_of s) len k.settings k.short)

pub largest : count_of (record { sf = 7; low = true; kind = kind.Explicit 4 true }) 255 ≡ Ok 832
unfolding count_of valid_sf valid_cr takes symbols_of nibbles_of data_nibbles symbol_count later_blocks remaining rows_of_first rows_of_later
largest = refl

-- airtime divides without remainder: the time answered, times the bandwidth, is the dividend
pub airtime-whole : (s : Settings) (len khz n time : ℕ) → airtime_of s len khz n ≡ Ok time → time * khz ≡ dividend s.sf n (symbols_of (frame_of s) len)
unfolding airtime_of microseconds
airtime-whole s len khz n time e = one (count_of s len) refl e
  where
    two : (count : ℕ) → count_of s len ≡ Ok count → (t : Bool) → valid_bandwidth khz ≡ t
        → check t (refuse 13 0) (Ok (dividend s.sf n count / khz)) ≡ Ok time → time * khz ≡ dividend s.sf n (symbols_of (frame_of s) len)
    two count f false g h = absurd (let z : ◌≡◌ {A = ℕ} 0 1 = cc in omega arith)
    two count f true g h =
        let k = counted s len count f in
        let same : dividend s.sf n count / khz ≡ time = cc in
        let exact = whole s.sf n count khz k.settings.sf-low g in
        rw (← same, ← k.is) (omega (arith, div-add-mod' (dividend s.sf n count) khz, exact))

    one : (r : Result ℕ Refusal) → count_of s len ≡ r → lasting r s khz n ≡ Ok time → time * khz ≡ dividend s.sf n (symbols_of (frame_of s) len)
    one (Err r) f g = absurd (let z : ◌≡◌ {A = ℕ} 0 1 = cc in omega arith)
    one (Ok count) f g = two count f (valid_bandwidth khz) refl g

-- head says what read says of a frame with a header
pub head-agrees : (sf : ℕ) (low : Bool) (symbols : List ℕ) (room marks : ℕ) (a : Accepted) → read_of sf low Explicit symbols room marks ≡ Ok a
    → head_of sf symbols ≡ Ok (record { length = a.length; cr = a.cr; checked = a.checked })
head-agrees sf low symbols room marks a e = (accepts sf low Explicit symbols room marks a e).known

-- and where head refuses, read refuses likewise
pub head-refuses : (sf : ℕ) (low : Bool) (symbols : List ℕ) (room marks number place : ℕ) → head_of sf symbols ≡ refuse number place
    → read_of sf low Explicit symbols room marks ≡ refuse number place
unfolding read_of
head-refuses sf low symbols room marks number place e = rw e

-- behind a header the first symbol of 2^SF or more is looked for over the rest, since head has looked at the first eight
pub over-the-rest : (sf : ℕ) (symbols : List ℕ) (h : Header) → head_of sf symbols ≡ Ok h → (n : ℕ) → 8 ≤ n
    → first_over sf symbols n 0 ≡ first_over sf symbols (n - 8) 8
unfolding head_of first_over
over-the-rest sf symbols h e n l = by (valid_sf sf) (leb 8 (length symbols)) (leb 8 (first_over sf symbols 8 0)) refl e
  where
    looked : 8 ≤ first_over sf symbols 8 0 → first_over sf symbols n 0 ≡ first_over sf symbols (n - 8) 8
    looked eight =
        let whole : 8 + (n - 8) ≡ n = omega arith in
        rw whole at (first-skip (is_over sf symbols) 8 (n - 8) 0 (λ k a b. first-before (is_over sf symbols) 8 0 k a (omega arith)))

    by : (a b c : Bool) → leb 8 (first_over sf symbols 8 0) ≡ c
        → check a (refuse 1 0) (check b (refuse 5 8) (check c (refuse 6 (first_over sf symbols 8 0)) (header_of (header_found sf symbols)))) ≡ Ok h
        → first_over sf symbols n 0 ≡ first_over sf symbols (n - 8) 8
    by true true true p f = looked (leb-true 8 (first_over sf symbols 8 0) p)
    by true true false p f = absurd (let z : ◌≡◌ {A = ℕ} 0 1 = cc in omega arith)
    by true false c p f = absurd (let z : ◌≡◌ {A = ℕ} 0 1 = cc in omega arith)
    by false b c p f = absurd (let z : ◌≡◌ {A = ℕ} 0 1 = cc in omega arith)

-- without one, read answers with what was agreed
pub as-agreed : (sf : ℕ) (low : Bool) (len cr : ℕ) (flag : Bool) (symbols : List ℕ) (room marks : ℕ) (a : Accepted)
    → read_of sf low (Agreed len cr flag) symbols room marks ≡ Ok a → (a.length ≡ len) × (a.cr ≡ cr) × (a.checked ≡ flag)
as-agreed sf low len cr flag symbols room marks a e = (accepts sf low (Agreed len cr flag) symbols room marks a e).known

-- A frame with no header, no bytes and no checksum still has eight symbols, all fillers: whatever they are below 2^SF, they are read with
-- no repairs.
module _ (sf : ℕ) (low : Bool) (cr : ℕ) (sf-low : 7 ≤ sf) (sf-high : sf ≤ 12) (cr-low : 1 ≤ cr) (cr-high : cr ≤ 4) where
  bare : Settings
  bare = record { sf = sf; low = low; kind = kind.Agreed 0 cr false }

  no-nibbles : nibbles_of (frame_of bare) 0 ≡ 0
  unfolding nibbles_of data_nibbles bare
  no-nibbles = omega arith

  eight : symbols_of (frame_of bare) 0 ≡ 8
  unfolding symbols_of symbol_count bare
  eight =
      let v : Valid (frame_of bare) = record { sf-low = sf-low; sf-high = sf-high; cr-low = cr-low; cr-high = cr-high; header-high = omega arith } in
      rw (no-later (frame_of bare) (nibbles_of (frame_of bare) 0) v (omega (arith, no-nibbles))) (omega arith)

  bare-counted : count_of bare 0 ≡ Ok (symbols_of (frame_of bare) 0)
  unfolding count_of valid_sf valid_cr takes bare
  bare-counted = rw (le-leb 7 sf sf-low, le-leb sf 12 sf-high, le-leb 1 cr cr-low, le-leb cr 4 cr-high)

  pub all-fillers : (symbols : List ℕ) (room marks : ℕ) → 8 ≤ length symbols → ((t : ℕ) → t < 8 → get_or symbols t 0 < 2 ^ sf) → 8 ≤ marks
      → read_of sf low (Agreed 0 cr false) symbols room marks
      ≡ Ok (record { length = 0; cr = cr; checked = false; symbols = 8; repairs = 0; drift = drift_of sf (get_or symbols 0 0) })
  unfolding data_of sum_holds accepted_of repairs_of how_many bare
  all-fillers symbols room marks enough below lists =
      front (kind.Agreed 0 cr false) sf low 0 symbols bare-counted room marks
      ∙ body-data (frame_of bare) symbols room marks 0 (omega arith) (omega (arith, eight)) (omega (arith, eight)) (λ t l. below t (omega (arith, eight)))
      ∙ rw (no-nibbles, eight, le-leb 0 (unreadable_in_data (frame_of bare) symbols 0) (omega arith))
