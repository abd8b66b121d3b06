-- The header that a frame is sent with.
-- Assumes nothing.
use mathlib.Core.Path.{◌≡◌}
use mathlib.Core.List.{List}
use Prim.Native.Nat.{ℕ, ◌<◌, ◌≤◌}
use native.Mathlib.Decide.{dec_lt}
use native.Mathlib.Omega.{arith}
use lib.ListN.{length, get_or, get_or-eq_default}
use lib.Seq.{length-take-le, get_or-take}
use Rattle.coding.specs.Ranges.{Sendable}
use Rattle.header.specs.Header.{header_nibbles}
use Rattle.header.proofs.HeaderLaws.{header-nibble-lt, length-header}
use Rattle.layout.specs.Ranges.{Valid}
use Rattle.layout.specs.declared.Frame.{Frame}
use Rattle.lora.specs.Code.{header_sent}

module _ (F : Frame) (len : ℕ) (v : Valid F) where
  -- it has as many nibbles as the frame's shape says
  pub sent-length : length (header_sent F len) ≡ F.header
  unfolding header_sent
  sent-length = length-take-le F.header (header_nibbles len F.cr F.checked) (omega (arith, length-header len F.cr F.checked, v.header-high))

  -- those of the header
  pub sent-in-header : (i : ℕ) → i < F.header → get_or (header_sent F len) i 0 ≡ get_or (header_nibbles len F.cr F.checked) i 0
  unfolding header_sent
  sent-in-header i h = get_or-take F.header (header_nibbles len F.cr F.checked) i 0 h

  -- so a payload can be sent behind it
  pub sendable : (payload : List ℕ) → length payload ≡ len → len ≤ 255 → Sendable F (header_sent F len) payload
  sendable payload is short = record { nibbles = small; long = sent-length; short = omega arith }
    where
      small : (i : ℕ) → get_or (header_sent F len) i 0 < 16
      small i = at (dec_lt i F.header)
        where
          at : Dec (i < F.header) → get_or (header_sent F len) i 0 < 16
          at (yes h) = rw (sent-in-header i h) (header-nibble-lt len F.cr F.checked (omega arith) v.cr-high i)
          at (no h) = rw (get_or-eq_default (header_sent F len) 0 {n = i} (omega (arith, sent-length))) (omega arith)
