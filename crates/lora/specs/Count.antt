-- The operation count. Document 01, "Numbers handed back instead of a result": count checks 1, 2, 3; and document 02, Ask 4: settings carry
-- the explicit header or the agreed length, rate and flag, and 3 is given also for a length that isn't the agreed one.
-- Assumes nothing.
use Rattle.std.specs.Prelude.{Bool, ◌&&◌, ℕ, leb, eqb, Result, Ok}
use Rattle.bits.specs.Check.{check}
use Rattle.layout.specs.Layout.{valid_sf, valid_cr, symbols_of}
use Rattle.layout.specs.declared.Frame.{Frame}
use Rattle.refusal.specs.Refusal.{refuse}
use Rattle.refusal.specs.declared.Refusal.{Refusal}
use Rattle.lora.specs.declared.Expected.{Expected}
use Rattle.lora.specs.declared.Expected.TheVariants as expected
use Rattle.lora.specs.declared.Kind.{Kind}
use Rattle.lora.specs.declared.Kind.TheVariants.{Explicit, Agreed}
use Rattle.lora.specs.declared.Settings.{Settings}

-- of either kind the code rate and the checksum flag
abbrev pub cr_of : Kind → ℕ
cr_of (Explicit cr flag) = cr
cr_of (Agreed agreed cr flag) = cr

abbrev pub checked_of : Kind → Bool
checked_of (Explicit cr flag) = flag
checked_of (Agreed agreed cr flag) = flag

-- what a reader of such frames expects: a header, which says the rest, or a frame as it was agreed
abbrev pub expected_of : Kind → Expected
expected_of (Explicit cr flag) = expected.Explicit
expected_of (Agreed agreed cr flag) = expected.Agreed agreed cr flag

-- an explicit header has five nibbles; without one there are none
abbrev pub header_length : Expected → ℕ
header_length expected.Explicit = 5
header_length (expected.Agreed agreed cr flag) = 0

-- settings as the shape of a frame
abbrev pub frame_of : Settings → Frame
frame_of s = record { sf = s.sf; low = s.low; cr = cr_of s.kind; checked = checked_of s.kind; header = header_length (expected_of s.kind) }

-- a length is at most 255, and the agreed one where one was agreed
unfoldable pub takes : Kind → ℕ → Bool
takes (Explicit cr flag) len = leb len 255
takes (Agreed agreed cr flag) len = leb len 255 && eqb len agreed

unfoldable pub count_of : Settings → ℕ → Result ℕ Refusal
count_of s len =
    check (valid_sf s.sf) (refuse 1 0)
    (check (valid_cr (cr_of s.kind)) (refuse 2 0)
    (check (takes s.kind len) (refuse 3 0)
    (Ok (symbols_of (frame_of s) len))))
