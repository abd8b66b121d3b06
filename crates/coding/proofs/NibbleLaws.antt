-- How a frame's nibbles are laid out: header, payload, checksum, fillers.
-- Assumes nothing.
use mathlib.Core.Path.{◌≡◌, refl, sym, ap, ◌∙◌, fun_ext}
use mathlib.Core.Bool.{Bool, true, false}
use mathlib.Core.List.{List}
use Prim.Native.Nat.{ℕ, zero, suc, ◌+◌, ◌-◌, ◌*◌, ◌/◌, ◌%◌, ◌<◌, ◌≤◌}
use native.Mathlib.Nat.{add-zero}
use native.Mathlib.Decide.{dec_lt}
use native.Mathlib.Omega.{arith}
use lib.Bits.{bit_xor}
use lib.Dec.{eqb}
use lib.ListN.{length, get_or, take, set, get_or-eq_default}
use borrow.Author.Tests.{lt-ltb, le-ltb, eq-eqb, ne_eqb}
use Rattle.std.proofs.lemmas.List.{length-take-le, get_or-take}
use Rattle.std.specs.Int.{w16, to_le_bytes}
use Rattle.bits.specs.Tab.{over, over_at, blank, Bytes}
use Rattle.bits.proofs.Fill.{Filled, filled_on, FilledAt, filled_at-none, filled_at-more, filled_at-on, filled_at-end}
use Rattle.bits.proofs.Tabs.{length-blank, length_over, get_or-over, over-cong, over-blank, over_at-cong}
use Rattle.layout.specs.declared.Frame.{Frame}
use Rattle.layout.specs.Layout.{data_nibbles}
use Rattle.layout.proofs.LayoutLaws.{data-le}
use Rattle.whitening.specs.Whitening.{whitening, whitened}
use Rattle.coding.specs.Nibbles.{half_of, nibble_of_bytes, data_byte, data_nibble, body_nibble, nibble_with}
use Rattle.coding.specs.Ranges.{Sendable}
use Rattle.coding.specs.Stages.{places, checksum_byte}
use Rattle.coding.proofs.CodingLaws.{nibble-lt}

-- a byte gives two nibbles
pub two-nibbles : (byte at : ℕ) (d : List ℕ) → at + 2 ≤ length d → set (set d at (byte % 16)) (at + 1) (byte / 16) ≡ over_at at 2 (half_of byte) d
unfolding half_of
two-nibbles byte at d h =
    let one : FilledAt (half_of byte) d at 1 (set d (at + 0) (byte % 16)) = filled_at-more (filled_at-none _ d at (omega arith)) (omega arith) refl in
    filled_at-end (rw add-zero at (filled_at-more one (omega arith) refl)) refl

-- the halves of a byte, two places on
half-on : (byte p i : ℕ) → half_of byte i ≡ half_of byte (2 * p + i)
unfolding half_of
half-on byte p i = let e : (2 * p + i) % 2 ≡ i % 2 = omega arith in rw e

-- one byte more
pub byte_more : {d l next : List ℕ} (byte : ℕ → ℕ) (at p : ℕ) → at + 2 * p + 2 ≤ length d → FilledAt (nibble_of_bytes byte) d at (2 * p) l
    → next ≡ over_at (at + 2 * p) 2 (half_of (byte p)) l → FilledAt (nibble_of_bytes byte) d at (2 * (p + 1)) next
unfolding nibble_of_bytes
byte_more byte at p room filled q =
    let s : 2 * (p + 1) ≡ 2 * p + 2 = omega arith in
    rw s (filled_at-on filled room q half)
  where
    half : (i : ℕ) → i < 2 → half_of (byte p) i ≡ nibble_of_bytes byte (2 * p + i)
    half i l = let e : (2 * p + i) / 2 ≡ p = omega arith in rw e (half-on _ p i)

-- the payload's bytes copied, whitened and put
pub payload-put : {bytes white next : List ℕ} (payload : List ℕ) (at : ℕ) (d e : List ℕ) → bytes ≡ over (length payload) (λ i. get_or payload i 0) e
    → white ≡ over (length payload) (whitened (λ i. get_or bytes i 0)) bytes → length payload ≤ length white
    → next ≡ over_at at (2 * length (take (length payload) white)) (nibble_of_bytes (λ p. get_or (take (length payload) white) p 0)) d
    → next ≡ over_at at (2 * length payload) (nibble_of_bytes (whitened (λ i. get_or payload i 0))) d
unfolding nibble_of_bytes
payload-put {bytes} {white} payload at d e copied turned room q =
    rw (length-take-le (length payload) white room) at q ∙ over_at-cong at (2 * length payload) _ _ d (λ i h. ap (λ (x : ℕ). half_of x i) (same (i / 2) (omega arith)))
  where
    same : (p : ℕ) → p < length payload → get_or (take (length payload) white) p 0 ≡ whitened (λ i. get_or payload i 0) p
    same p h =
        let byte : get_or bytes p 0 ≡ get_or payload p 0 = rw copied (get_or-over (length payload) (λ i. get_or payload i 0) e p 0 h) in
        get_or-take (length payload) white p 0 h ∙ rw turned (get_or-over (length payload) (whitened (λ i. get_or bytes i 0)) bytes p 0 h ∙ ap (λ (x : ℕ). bit_xor x (whitening p)) byte)

-- the checksum's bytes, low byte first
pub checksum-put : {bytes next : List ℕ} (checksum at : ℕ) (d : List ℕ) → checksum < 65536 → bytes ≡ to_le_bytes w16 checksum
    → next ≡ over_at at (2 * length bytes) (nibble_of_bytes (λ p. get_or bytes p 0)) d → next ≡ over_at at 4 (nibble_of_bytes (checksum_byte checksum)) d
unfolding nibble_of_bytes checksum_byte
checksum-put checksum at d small listed q =
    rw listed at q ∙ over_at-cong at 4 _ _ d (λ i h. ap (λ (x : ℕ). half_of x i) (same (i / 2) (omega arith)))
  where
    same : (p : ℕ) → p < 2 → get_or (to_le_bytes w16 checksum) p 0 ≡ checksum_byte checksum p
    same zero h = refl
    same (suc zero) h = omega arith
    same (suc (suc p)) h = absurd (omega arith)

-- the nibbles of a frame with this header, payload, checksum and checksum flag, laid out in d
module _ (header payload : List ℕ) (checksum : ℕ) (flag : Bool) where
  -- nibble i, and the numbers of the payload's nibbles and of all of them
  abbrev nibble : ℕ → ℕ
  nibble = nibble_with header payload checksum flag

  abbrev behind : ℕ
  behind = length header + 2 * length payload

  abbrev count : ℕ
  count = length header + data_nibbles (length payload) flag

  at-header : (i : ℕ) → i < length header → get_or header i 0 ≡ nibble i
  unfolding nibble_with
  at-header i h = rw (lt-ltb i (length header) h)

  -- behind the header
  at_body : (i : ℕ) → body_nibble payload checksum flag i ≡ nibble (length header + i)
  unfolding nibble_with
  at_body i = let e : length header + i - length header ≡ i = omega arith in rw (le-ltb (length header + i) (length header) (omega arith), e)

  -- the payload is data
  data-more : 2 * length payload ≤ data_nibbles (length payload) flag
  unfolding data_nibbles
  data-more = omega arith

  at-payload : (i : ℕ) → i < 2 * length payload → nibble_of_bytes (whitened (λ i. get_or payload i 0)) i ≡ nibble (length header + i)
  unfolding nibble_of_bytes body_nibble data_nibble data_byte
  at-payload i h =
      rw (← at_body i, lt-ltb i (data_nibbles (length payload) flag) (omega (arith, data-more)), lt-ltb (i / 2) (length payload) (omega arith))

  -- what lies behind the data is a filler
  at-filler : (i : ℕ) → count ≤ i → nibble i ≡ 0
  unfolding nibble_with body_nibble
  at-filler i h = rw (le-ltb i (length header) (omega arith), le-ltb (i - length header) (data_nibbles (length payload) flag) (omega arith))

  pub header-laid : {l : List ℕ} (d : List ℕ) → length header ≤ length d → l ≡ over (length header) (λ i. get_or header i 0) d → Filled nibble d (length header) l
  header-laid d h q =
      let is = q ∙ over-cong (length header) _ _ d at-header in
      record { is = is; long = ap length is ∙ length_over (length header) _ d h; within = h }

  pub payload-laid : {d l next : List ℕ} → behind ≤ length d → Filled nibble d (length header) l
      → next ≡ over_at (length header) (2 * length payload) (nibble_of_bytes (whitened (λ i. get_or payload i 0))) l → Filled nibble d behind next
  payload-laid h p q = filled_on p h q at-payload

  -- the checksum behind the payload
  at-checksum : flag ≡ true → (i : ℕ) → i < 4 → nibble_of_bytes (checksum_byte checksum) i ≡ nibble (behind + i)
  unfolding nibble_of_bytes checksum_byte body_nibble data_nibble data_byte data_nibbles
  at-checksum t i h =
      let n : ℕ = length payload in
      let place : length header + 2 * n + i ≡ length header + (2 * n + i) = omega arith in
      let half : (2 * n + i) / 2 ≡ n + i / 2 = omega arith in
      rw (place, ← at_body (2 * n + i), t, lt-ltb (2 * n + i) (2 * n + 4) (omega arith), half, le-ltb (n + i / 2) n (omega arith), same (dec_lt i 2))
      (half-on _ n i)
    where
      same : Dec (i < 2) → eqb (length payload + i / 2) (length payload) ≡ eqb (i / 2) 0
      same (yes l) = eq-eqb (length payload + i / 2) (length payload) (omega arith) ∙ sym (eq-eqb (i / 2) 0 (omega arith))
      same (no l) = ne_eqb (length payload + i / 2) (length payload) (λ e. omega arith) ∙ sym (ne_eqb (i / 2) 0 (λ e. omega arith))

  pub checksum-laid : {d l next : List ℕ} → flag ≡ true → behind + 4 ≤ length d → Filled nibble d behind l
      → next ≡ over_at behind 4 (nibble_of_bytes (checksum_byte checksum)) l → Filled nibble d count next
  unfolding data_nibbles
  checksum-laid t room p q =
      let e : count ≡ behind + 4 = rw t (omega arith) in
      rw e (filled_on p room q (at-checksum t))

  -- no checksum, nothing more
  pub bare-laid : {d l : List ℕ} → flag ≡ false → Filled nibble d behind l → Filled nibble d count l
  unfolding data_nibbles
  bare-laid t p = let e : count ≡ behind = rw t (omega arith) in rw e p

  -- there are places for them
  count-le : length header ≤ 5 → length payload ≤ 255 → count ≤ places
  count-le few short = omega (arith, data-le (length payload) flag short)

  -- the rest of the list is fillers already
  pub fillers-laid : {l : List ℕ} (d : List ℕ) → d ≡ blank places 0 → length header ≤ 5 → length payload ≤ 255 → Filled nibble d count l → l ≡ over places nibble d
  fillers-laid d e few short p =
      p.is ∙ rw e (sym (over-blank count places _ _ 0 (count-le few short) (λ i h. refl) (λ i h l. at-filler i h)))

  -- read at any place, the nibbles laid out are the frame's
  pub laid-nibbles : {l : List ℕ} → length header ≤ 5 → length payload ≤ 255 → l ≡ over places nibble (blank places 0) → (λ i. get_or l i 0) ≡ nibble
  laid-nibbles {l} few short e = fun_ext (λ i. at i (dec_lt i places))
    where
      long : length l ≡ places
      long = ap length e ∙ length_over places _ (blank places 0) (omega (arith, length-blank {A = ℕ} places 0)) ∙ length-blank places 0

      at : (i : ℕ) → Dec (i < places) → get_or l i 0 ≡ nibble i
      at i (yes h) = rw e (get_or-over places nibble (blank places 0) i 0 h)
      at i (no h) = get_or-eq_default l 0 {n = i} (omega (arith, long)) ∙ sym (at-filler i (omega (arith, count-le few short)))

-- and they are nibbles
pub laid-small : {F : Frame} {l : List ℕ} (header payload : List ℕ) (checksum : ℕ) (flag : Bool) → Sendable F header payload → length header ≤ 5 → Bytes payload
    → checksum < 65536 → l ≡ over places (nibble_with header payload checksum flag) (blank places 0) → (i : ℕ) → get_or l i 0 < 16
laid-small header payload checksum flag s few bytes small e i =
    rw (ap (λ (f : ℕ → ℕ). f i) (laid-nibbles header payload checksum flag few s.short e)) (nibble-lt header payload checksum flag i s bytes small)
