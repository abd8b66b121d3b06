-- The nibbles of a frame, one for each codeword: header, data, fillers. Document 01, "Whitening", "Payload checksum" and
-- "Blocks, the diagonal and the Gray step". The header is a list of nibbles, so that a frame without one has the same rules.
-- Assumes nothing.
use Rattle.std.specs.Prelude.{Bool, cond, List, ℕ, ◌-◌, ◌/◌, ◌%◌, ltb, eqb, length, get_or}
use Rattle.checksum.specs.Checksum.{checksum}
use Rattle.layout.specs.Layout.{data_nibbles}
use Rattle.whitening.specs.Whitening.{whitened}

-- payload bytes are whitened; the checksum follows, low byte first, and is not
unfoldable pub data_byte : List ℕ → ℕ → ℕ → ℕ
data_byte payload checksum p =
    cond (ltb p (length payload)) (whitened (λ i. get_or payload i 0) p)
    (cond (eqb p (length payload)) (checksum % 256) (checksum / 256))

-- a byte gives its low nibble first
unfoldable pub half_of : ℕ → ℕ → ℕ
half_of byte i = cond (eqb (i % 2) 0) (byte % 16) (byte / 16)

-- nibble i of bytes, two for each
unfoldable pub nibble_of_bytes : (ℕ → ℕ) → ℕ → ℕ
nibble_of_bytes byte i = half_of (byte (i / 2)) i

unfoldable pub data_nibble : List ℕ → ℕ → ℕ → ℕ
data_nibble payload checksum = nibble_of_bytes (data_byte payload checksum)

-- places left over are filled with nibble 0
unfoldable pub body_nibble : List ℕ → ℕ → Bool → ℕ → ℕ
body_nibble payload checksum flag i = cond (ltb i (data_nibbles (length payload) flag)) (data_nibble payload checksum i) 0

-- nibble i of a frame with this header, payload, checksum and checksum flag
unfoldable pub nibble_with : List ℕ → List ℕ → ℕ → Bool → ℕ → ℕ
nibble_with header payload checksum flag i =
    cond (ltb i (length header)) (get_or header i 0) (body_nibble payload checksum flag (i - length header))

-- the same, with the payload's own checksum
unfoldable pub frame_nibble : List ℕ → List ℕ → Bool → ℕ → ℕ
frame_nibble header payload flag = nibble_with header payload (checksum payload) flag
