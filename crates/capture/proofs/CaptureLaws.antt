-- A capture taken byte by byte is the capture that it is, in pieces of any size.
-- Assumes nothing.
use mathlib.Core.Path.{◌≡◌, refl, ap}
use mathlib.Core.Bool.{Bool, true, false, cond}
use mathlib.Core.List.{List, [], ◌∷◌}
use Prim.Native.Nat.{ℕ, ◌<◌}
use native.Mathlib.Omega.{arith}
use borrow.Author.Tests.{le-leb}
use lib.Dec.{leb}
use lib.ListN.{length, get_or, drop, length-drop}
use Rattle.bits.proofs.Truth.{check-same}
use Rattle.text.specs.Scan as text
use Rattle.text.specs.Text.{is_separator, words_from, frame_of, text_of}
use Rattle.text.proofs.TextLaws as text-laws
use Rattle.text.proofs.TextLaws.{meant, scanned-as, crowd, step-shuts}
use Rattle.capture.specs.Capture.{bad, explicit, agreed_of, agreed_in, is_mark, capture_of, answer_of, outcome_is}
use Rattle.text.specs.Scan.{empty}
use Rattle.capture.specs.Scan.{start, fresh, step, run, ended, said, taken, line_at, outcome_at}
use Rattle.capture.proofs.ScanLaws.{front-stays, step-mark, step-plain, behind-mark, behind-word, run_on}

-- more than 837 numbers are no frame without a header
crowded : (numbers : List ℕ) → 837 < length numbers → agreed_of numbers ≡ bad
unfolding agreed_of
crowded numbers h =
    rw (le-leb 3 (length numbers) (omega arith), crowd (drop 3 numbers) (omega (arith, length-drop 3 numbers)))
    (check-same (leb (get_or numbers 2 0) 1) refl)

-- behind a mark, and behind a byte that is neither a mark nor a separator
marked : (bs : List ℕ) → taken (run (record { agreed = true; text = text.start }) bs) ≡ agreed_in (words_from [] bs)
unfolding taken said ended agreed_in meant
marked bs = rw (run_on bs (record { agreed = true; text = text.start }) (behind-mark text.start)) (scanned-as bad agreed_of crowded bs)

plain : (b : ℕ) (bs : List ℕ) → is_separator b ≡ false → is_mark b ≡ false → taken (run (step start b) bs) ≡ explicit (text_of (words_from [] (b ∷ bs)))
unfolding taken said ended start text.taken text.run
plain b bs e f =
    rw (step-plain start b f, run_on bs (record { agreed = false; text = text.step text.start b }) (behind-word start b e))
    (ap explicit (text-laws.scanned (b ∷ bs)))

-- the first byte: a separator changes nothing, a mark opens a text of its own
pub front-skips : (b : ℕ) → is_separator b ≡ true → step start b ≡ start
unfolding start fresh empty text.start
front-skips b e = front-stays start b refl e

pub front-mark : (b : ℕ) → is_mark b ≡ true → step start b ≡ record { agreed = true; text = text.start }
unfolding start fresh empty text.start
front-mark b e = step-mark start b (rw e)

-- nothing at all is no frame
nothing : taken start ≡ bad
unfolding taken said ended start text.said text.ended text.shut text.start frame_of
nothing = refl

-- scanning a whole capture gives the capture
pub scanned : (bytes : List ℕ) → taken (run start bytes) ≡ capture_of bytes
unfolding run capture_of
scanned [] = nothing
scanned (b ∷ bs) = go (is_separator b) (is_mark b) refl refl (scanned bs)
  where
    go : (t m : Bool) → is_separator b ≡ t → is_mark b ≡ m → taken (run start bs) ≡ capture_of bs
        → taken (run (step start b) bs) ≡ cond t (capture_of bs) (cond m (agreed_in (words_from [] bs)) (explicit (text_of (words_from [] (b ∷ bs)))))
    go true m e f next = rw (front-skips b e) next
    go false true e f next = rw (front-mark b f) (marked bs)
    go false false e f next = plain b bs e f

-- whatever pieces a capture was taken in, its line is the one that answers the whole capture
pub answers-capture : (bytes : List ℕ) → line_at (run start bytes) ≡ answer_of bytes
unfolding answer_of line_at
answers-capture bytes = rw (scanned bytes)

-- and so is its outcome
pub outcome-capture : (bytes : List ℕ) → outcome_at (run start bytes) ≡ outcome_is bytes
unfolding outcome_is outcome_at
outcome-capture bytes = rw (scanned bytes)
