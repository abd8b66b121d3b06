-- Frames without a header change nothing for document 01's text.
-- Assumes nothing.
use mathlib.Core.Path.{◌≡◌, refl}
use mathlib.Core.Bool.{Bool, true, false, cond, true≢false, false≢true}
use mathlib.Core.List.{List, [], ◌∷◌}
use Prim.Native.Nat.{ℕ}
use native.Mathlib.Omega.{arith}
use borrow.Author.Tests.{eqb-true}
use Rattle.bits.proofs.Truth.{refuted}
use Rattle.text.specs.Text as text
use Rattle.text.specs.Text.{Text, is_separator, closed, words_from, all, is_number, frame_of, text_of}
use Rattle.text.proofs.TextLaws.{spoiled}
use Rattle.capture.specs.Capture.{bad, explicit, agreed_in, is_mark, capture_of, answer_to, outcome_to, answer_of, outcome_is}

-- the first byte behind separators is a mark
unfoldable pub marked : List ℕ → Bool
marked [] = false
marked (b ∷ bs) = cond (is_separator b) (marked bs) (is_mark b)

-- without a mark in front a capture is 01's text
nothing : bad ≡ explicit (text_of [])
unfolding text_of all frame_of
nothing = refl

pub unmarked : (bytes : List ℕ) → marked bytes ≡ false → capture_of bytes ≡ explicit (text_of (words_from [] bytes))
unfolding marked capture_of words_from closed
unmarked [] e = nothing
unmarked (b ∷ bs) e = go (is_separator b) (is_mark b) e (λ f. unmarked bs f)
  where
    words : Bool → List (List ℕ)
    words t = cond t (words_from [] bs) (words_from (b ∷ []) bs)

    go : (t m : Bool) → cond t (marked bs) m ≡ false → (marked bs ≡ false → capture_of bs ≡ explicit (text_of (words_from [] bs)))
        → cond t (capture_of bs) (cond m (agreed_in (words_from [] bs)) (explicit (text_of (words t)))) ≡ explicit (text_of (words t))
    go true m f next = next f
    go false false f next = refl
    go false true f next = absurd (true≢false f)

-- A text with no mark in front is answered as the reading program answers it.
pub as_before : (bytes : List ℕ) → marked bytes ≡ false → (answer_of bytes ≡ text.answer_of bytes) × (outcome_is bytes ≡ text.outcome_is bytes)
unfolding answer_of outcome_is text.answer_of text.outcome_is
as_before bytes e = rw (unmarked bytes e) (by (text_of (words_from [] bytes)))
  where
    by : (t : Text) → (answer_to (explicit t) ≡ text.answer_to t) × (outcome_to (explicit t) ≡ text.outcome_to t)
    by Text.bad = (refl, refl)
    by (Text.frame sf low symbols) = (refl, refl)

-- a mark is in no text that 01 takes
mark-spoils : (b : ℕ) → is_mark b ≡ true → is_number (b ∷ []) ≡ false
unfolding is_number all
mark-spoils b e = let f : b ≡ 61 = eqb-true b 61 e in rw f

marked-bad : (bytes : List ℕ) → marked bytes ≡ true → text_of (words_from [] bytes) ≡ Text.bad
unfolding marked words_from closed text_of
marked-bad [] e = absurd (false≢true e)
marked-bad (b ∷ bs) e = go (is_separator b) e (λ f. marked-bad bs f)
  where
    go : (t : Bool) → cond t (marked bs) (is_mark b) ≡ true → (marked bs ≡ true → text_of (words_from [] bs) ≡ Text.bad)
        → text_of (cond t (words_from [] bs) (words_from (b ∷ []) bs)) ≡ Text.bad
    go true f next = next f
    go false f next = rw (spoiled (b ∷ []) bs (omega arith) (mark-spoils b f))

-- Every text that document 01 takes is answered as the reading program answers it.
pub texts-as-before : (bytes : List ℕ) {sf : ℕ} {low : Bool} {symbols : List ℕ} → text_of (words_from [] bytes) ≡ Text.frame sf low symbols
    → (answer_of bytes ≡ text.answer_of bytes) × (outcome_is bytes ≡ text.outcome_is bytes)
texts-as-before bytes e = as_before bytes (refuted (marked bytes) (λ f. let g = marked-bad bytes f in let z : ◌≡◌ {A = ℕ} 0 1 = cc in omega arith))
