-- Laws of the payload checksum.
-- Assumes nothing.
use mathlib.Core.Bool.{cond}
use mathlib.Core.Path.{◌≡◌, refl, sym, ap, ◌∙◌}
use mathlib.Core.List.{List, [], ◌∷◌}
use Prim.Native.Nat.{ℕ, zero, suc, ◌+◌, ◌*◌, ◌/◌, ◌%◌, ◌^◌, ◌<◌, ◌≤◌}
use native.Mathlib.Nat.{add_assoc, mul_comm, mul_assoc, add-mul, pow-suc, zero-div}
use native.Mathlib.Decide.{dec_lt}
use native.Mathlib.Omega.{arith}
use borrow.Author.Tests.{lt-ltb, le-ltb}
use lib.Arith.{mod-mul}
use lib.Dec.{ltb}
use lib.Pow.{pow_pos, pow_mono}
use lib.Bits.{bit_xor, xor_shr, xor_zero_r, xor_shifted, xor_block}
use Rattle.std.proofs.Common.{fold}
use Rattle.bits.specs.Bit.{bit}
use Rattle.bits.proofs.Bits.{bit-lt}
use Rattle.bits.proofs.Xor.{xor-swap}
use Rattle.checksum.specs.Checksum.{divisor, reduced, one_bit, low_bits, one_byte, remainder, checksum}
use Rattle.checksum.specs.Table.{entry}

-- a polynomial of degree 16 at most has a remainder of 16 bits: the divisor takes its top coefficient away
reduced-lt : (p : ℕ) → p < 131072 → reduced p < 65536
unfolding reduced divisor
reduced-lt p h = go (dec_lt p 65536)
  where
    go : Dec (p < 65536) → cond (ltb p 65536) p (bit_xor p divisor) < 65536
    go (yes low) = rw (lt-ltb p 65536 low) low
    go (no high) =
        let big : 65536 ≤ p = omega arith in
        let one : p / 65536 ≡ 1 = omega arith in
        let none : bit_xor p divisor / 65536 ≡ 0 = xor_shr p divisor 16 ∙ ap (λ (x : ℕ). bit_xor x 1) one in
        rw (le-ltb p 65536 big) (omega arith)

-- after one more bit a remainder still has 16 bits
one_bit-lt : (r b : ℕ) → r < 65536 → b < 2 → one_bit r b < 65536
unfolding one_bit
one_bit-lt r b h l = reduced-lt (r * 2 + b) (omega arith)

-- and so after some bits of a byte
low_bits-lt : (k r byte : ℕ) → r < 65536 → low_bits k r byte < 65536
unfolding low_bits
low_bits-lt zero r byte h = h
low_bits-lt (suc k) r byte h = low_bits-lt k _ byte (one_bit-lt r _ h (bit-lt _ byte))

-- and so after some bytes
remainder-lt : (r : ℕ) (bytes : List ℕ) → r < 65536 → remainder r bytes < 65536
unfolding remainder one_byte
remainder-lt r [] h = h
remainder-lt r (byte ∷ bytes) h = remainder-lt (low_bits 8 r byte) bytes (low_bits-lt 8 r byte h)

-- a checksum has 16 bits
pub checksum-lt : (payload : List ℕ) → checksum payload < 65536
unfolding checksum
checksum-lt payload = remainder-lt 0 payload (omega arith)

-- what has no top coefficient does not change whether the divisor goes in
reduced-xor : (p q : ℕ) → q < 65536 → reduced (bit_xor p q) ≡ bit_xor (reduced p) q
unfolding reduced
reduced-xor p q h = go (dec_lt p 65536)
  where
    top : bit_xor p q / 65536 ≡ p / 65536
    top = let none : q / 65536 ≡ 0 = omega arith in xor_shr p q 16 ∙ ap (bit_xor (p / 65536)) none ∙ xor_zero_r (p / 65536)

    go : Dec (p < 65536) → cond (ltb (bit_xor p q) 65536) (bit_xor p q) (bit_xor (bit_xor p q) divisor) ≡ bit_xor (cond (ltb p 65536) p (bit_xor p divisor)) q
    go (yes low) = rw (lt-ltb p 65536 low, lt-ltb (bit_xor p q) 65536 (omega (arith, top)))
    go (no high) =
        let big : 65536 ≤ p = omega arith in
        rw (le-ltb p 65536 big, le-ltb (bit_xor p q) 65536 (omega (arith, top))) (xor-swap p q divisor)

-- one bit is linear: what does not reach the top is doubled, and the bit comes in below
one_bit-xor : (r s b : ℕ) → s < 32768 → b < 2 → one_bit (bit_xor r s) b ≡ bit_xor (one_bit r 0) (s * 2 + b)
unfolding one_bit
one_bit-xor r s b h l =
    ap reduced (sym (xor_block 1 r s 0 b (omega arith) l)) ∙ reduced-xor (r * 2 + 0) (s * 2 + b) (omega arith)

-- the k + 1 lowest bits of a byte, as a number, behind those of s
low-more : (k s byte : ℕ) → (s * 2 + bit k byte) * 2 ^ k + byte % 2 ^ k ≡ s * 2 ^ suc k + byte % 2 ^ suc k
unfolding bit
low-more k s byte =
    let m : byte % (2 * 2 ^ k) ≡ byte / 2 ^ k % 2 * 2 ^ k + byte % 2 ^ k = mod-mul byte (omega arith) (pow_pos k) in
    rw (pow-suc, mul_comm (2 ^ k) 2, m, add-mul, mul_assoc, add_assoc)

-- 0 has no bit
bit-zero : (k : ℕ) → bit k 0 ≡ 0
unfolding bit
bit-zero k = rw zero-div

-- k bits are linear: s, of j bits, does not reach the top, and goes up k places; the byte's k lowest bits come in below
low_bits-xor : (k j r s byte : ℕ) → j + k ≤ 16 → s < 2 ^ j → low_bits k (bit_xor r s) byte ≡ bit_xor (low_bits k r 0) (s * 2 ^ k + byte % 2 ^ k)
unfolding low_bits
low_bits-xor zero j r s byte h l =
    let same : s ≡ s * 1 + byte % 1 = omega arith in
    ap (bit_xor r) same
low_bits-xor (suc k) j r s byte h l =
    let low : 2 ^ j ≤ 2 ^ 15 = pow_mono {j = 15} (omega arith) in
    let b : ℕ = bit k byte in
    let small : b < 2 = bit-lt _ byte in
    let up : s * 2 + b < 2 ^ suc j = rw pow-suc (omega arith) in
    rw (one_bit-xor r s b (omega arith) small, bit-zero, low_bits-xor k (suc j) (one_bit r 0) (s * 2 + b) byte (omega arith) up, low-more k s byte)

-- a byte all at once: the 8 bits at the top leave, and their remainder is taken off the rest with the byte
pub one_byte-table : (r byte : ℕ) → byte < 256 → one_byte r byte ≡ bit_xor (entry (r / 256)) (r % 256 * 256 + byte)
unfolding one_byte entry
one_byte-table r byte h =
    let parts : r ≡ bit_xor (r / 256 * 256) (r % 256) = omega (arith, xor_shifted (r / 256) 8 (r % 256) (omega arith)) in
    let low : byte % 256 ≡ byte = omega arith in
    ap (λ (x : ℕ). low_bits 8 x byte) parts ∙ rw low at (low_bits-xor 8 8 (r / 256 * 256) (r % 256) byte (omega arith) (omega arith))

-- the bytes taken in, one after the other
pub remainder-fold : (r : ℕ) (bytes : List ℕ) → remainder r bytes ≡ fold one_byte r bytes
unfolding remainder
remainder-fold r [] = refl
remainder-fold r (byte ∷ bytes) = remainder-fold (one_byte r byte) bytes
