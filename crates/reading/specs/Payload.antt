-- The payload and its checksum in a frame's nibbles. Document 01, "Whitening" and "Payload checksum".
-- Assumes nothing.
use Rattle.std.specs.Prelude.{ℕ, ◌+◌, ◌*◌}
use Rattle.whitening.specs.Whitening.{whitened}

-- byte p of the data that stand behind so many header nibbles; a byte gives its low nibble first
unfoldable pub byte_of_nibbles : ℕ → (ℕ → ℕ) → ℕ → ℕ
byte_of_nibbles header nibble p = nibble (header + 2 * p) + 16 * nibble (header + 2 * p + 1)

-- byte p of the payload: whitened again, it is as it was sent
unfoldable pub payload_byte : ℕ → (ℕ → ℕ) → ℕ → ℕ
payload_byte header nibble = whitened (byte_of_nibbles header nibble)

-- the checksum that was sent behind a payload of len bytes, low byte first; it is not whitened
unfoldable pub sent_checksum : ℕ → (ℕ → ℕ) → ℕ → ℕ
sent_checksum header nibble len = byte_of_nibbles header nibble len + 256 * byte_of_nibbles header nibble (len + 1)
