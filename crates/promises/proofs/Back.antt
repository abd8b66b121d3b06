-- What was sent comes back from the nibbles of its frame: the payload and the checksum.
-- Assumes nothing.
use mathlib.Core.Path.{◌≡◌, refl, ◌∙◌}
use mathlib.Core.Bool.{Bool, true}
use mathlib.Core.List.{List}
use Prim.Native.Nat.{ℕ, ◌+◌, ◌-◌, ◌*◌, ◌/◌, ◌%◌, ◌<◌, ◌≤◌}
use native.Mathlib.Nat.{add_assoc}
use native.Mathlib.Omega.{arith}
use borrow.Author.Tests.{lt-ltb, le-ltb, eq-eqb, ne_eqb}
use lib.Bits.{bit_xor}
use lib.ListN.{length, get_or}
use Rattle.bits.specs.Tab.{tab}
use Rattle.bits.proofs.Xor.{xor-twice}
use Rattle.bits.proofs.Tabs.{tab-cong, tab-get_or}
use Rattle.checksum.specs.Checksum.{checksum}
use Rattle.coding.specs.Nibbles.{data_byte, half_of, nibble_of_bytes, data_nibble, body_nibble, nibble_with, frame_nibble}
use Rattle.layout.specs.Layout.{data_nibbles}
use Rattle.reading.specs.Payload.{byte_of_nibbles, payload_byte, sent_checksum}
use Rattle.whitening.specs.Whitening.{whitening}

-- the nibbles of byte p behind the header, low nibble first
low-nibble : (payload : List ℕ) (sum p : ℕ) → data_nibble payload sum (2 * p) ≡ data_byte payload sum p % 16
unfolding data_nibble nibble_of_bytes half_of
low-nibble payload sum p =
    let half : 2 * p / 2 ≡ p = omega arith in
    let even : 2 * p % 2 ≡ 0 = omega arith in
    rw (half, even)

high-nibble : (payload : List ℕ) (sum p : ℕ) → data_nibble payload sum (2 * p + 1) ≡ data_byte payload sum p / 16
unfolding data_nibble nibble_of_bytes half_of
high-nibble payload sum p =
    let half : (2 * p + 1) / 2 ≡ p = omega arith in
    let odd : (2 * p + 1) % 2 ≡ 1 = omega arith in
    rw (half, odd)

-- the bytes behind the header: the whitened payload, and the checksum's two
payload-at : (payload : List ℕ) (sum p : ℕ) → p < length payload → data_byte payload sum p ≡ bit_xor (get_or payload p 0) (whitening p)
unfolding data_byte
payload-at payload sum p h = rw (lt-ltb p (length payload) h)

sum_low : (payload : List ℕ) (sum : ℕ) → data_byte payload sum (length payload) ≡ sum % 256
unfolding data_byte
sum_low payload sum =
    let here : length payload ≤ length payload = omega arith in
    rw (le-ltb (length payload) (length payload) here, eq-eqb (length payload) (length payload) refl)

sum-high : (payload : List ℕ) (sum : ℕ) → data_byte payload sum (length payload + 1) ≡ sum / 256
unfolding data_byte
sum-high payload sum =
    let behind : length payload ≤ length payload + 1 = omega arith in
    rw (le-ltb (length payload + 1) (length payload) behind, ne_eqb (length payload + 1) (length payload) (λ e. omega arith))

-- the data nibbles have the payload's, and with the flag the checksum's
payload-within : (len : ℕ) (flag : Bool) → 2 * len ≤ data_nibbles len flag
unfolding data_nibbles
payload-within len flag = omega arith

checksum-within : (len : ℕ) → 2 * len + 4 ≤ data_nibbles len true
unfolding data_nibbles
checksum-within len = omega arith

-- a frame's nibble in the header, and behind it
pub frame-in-header : (header payload : List ℕ) (flag : Bool) (i : ℕ) → i < length header → frame_nibble header payload flag i ≡ get_or header i 0
unfolding frame_nibble nibble_with
frame-in-header header payload flag i h = rw (lt-ltb i (length header) h)

pub frame-behind : (header payload : List ℕ) (flag : Bool) (j : ℕ) → j < data_nibbles (length payload) flag
    → frame_nibble header payload flag (length header + j) ≡ data_nibble payload (checksum payload) j
unfolding frame_nibble nibble_with body_nibble
frame-behind header payload flag j h =
    let behind : length header ≤ length header + j = omega arith in
    let e : length header + j - length header ≡ j = omega arith in
    rw (le-ltb (length header + j) (length header) behind, e, lt-ltb j (data_nibbles (length payload) flag) h)

-- nibbles that agree with the frame's as far as its header and data go
module _ (header payload : List ℕ) (flag : Bool) (nib : ℕ → ℕ)
    (agree : (i : ℕ) → i < length header + data_nibbles (length payload) flag → nib i ≡ frame_nibble header payload flag i) where
  nibble-back : (j : ℕ) → j < data_nibbles (length payload) flag → nib (length header + j) ≡ data_nibble payload (checksum payload) j
  nibble-back j h = agree (length header + j) (omega arith) ∙ frame-behind header payload flag j h

  -- a byte behind the header comes back
  pub byte-back : (p : ℕ) → 2 * p + 1 < data_nibbles (length payload) flag
      → byte_of_nibbles (length header) nib p ≡ data_byte payload (checksum payload) p
  unfolding byte_of_nibbles
  byte-back p h =
      rw (
        add_assoc (length header) (2 * p) 1,
        nibble-back (2 * p) (omega arith),
        nibble-back (2 * p + 1) h,
        low-nibble payload (checksum payload) p,
        high-nibble payload (checksum payload) p,
      )
      (omega arith)

  -- each byte of the payload comes back
  pub payload-back : (p : ℕ) → p < length payload → payload_byte (length header) nib p ≡ get_or payload p 0
  unfolding payload_byte
  payload-back p h =
      rw (byte-back p (omega (arith, payload-within (length payload) flag)), payload-at payload (checksum payload) p h)
      (xor-twice (get_or payload p 0) (whitening p))

  -- the payload comes back
  pub bytes_back : tab (length payload) (payload_byte (length header) nib) ≡ payload
  bytes_back = tab-cong (length payload) (payload_byte (length header) nib) (λ i. get_or payload i 0) payload-back ∙ tab-get_or payload 0

  -- the checksum comes back
  pub checksum-back : flag ≡ true → sent_checksum (length header) nib (length payload) ≡ checksum payload
  unfolding sent_checksum
  checksum-back e =
      let all : 2 * length payload + 4 ≤ data_nibbles (length payload) flag = rw e (checksum-within (length payload)) in
      rw (byte-back (length payload) (omega arith), byte-back (length payload + 1) (omega arith), sum_low, sum-high) (omega arith)
