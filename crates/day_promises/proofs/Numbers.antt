-- The number 8, with which no frame is refused, is in no file. Document 02, Ask 5.
-- Assumes nothing.
use mathlib.Core.Path.{◌≡◌, sym, ap, ◌∙◌}
use mathlib.Core.Bool.{true, false, and-false, true≢false}
use mathlib.Core.List.{List, [], ◌∷◌, ◌++◌}
use Prim.Native.Nat.{ℕ, zero, suc, ◌+◌, ◌*◌, ◌/◌, ◌<◌}
use native.Mathlib.Omega.{arith}
use lib.Dec.{leb}
use lib.ListN.{length, get_or}
use borrow.Author.Tests.{lt-ltb}
use Rattle.bits.proofs.Tabs.{length-tab, get_or-tab}
use Rattle.bits.proofs.Truth.{refuted}
use Rattle.day.specs.Script.{one, ◌>>=◌, walk, stop, taken, good_each}
use Rattle.day.specs.Day.{RefusedFrame, Day, kind1, within, is_number, setting, frame, refused_frame, good_section, good_day, judged}
use Rattle.day.proofs.ScriptLaws.{both_true}
use Rattle.day_write.specs.Write.{refused_row, entries_of, write_of, Writing}
use Rattle.std.specs.Prelude.{Result}
use Rattle.refusal.specs.Refusal.{refuse}
use Rattle.refusal.specs.declared.Refusal.{Refusal}
use Rattle.day_promises.proofs.File.{is-the-file}

-- the numbers of refused frames that a file can hold
good-number : (settings : ℕ) (before : List RefusedFrame) (r : RefusedFrame) → (refused_frame settings).good before r ≡ true → is_number r.number ≡ true
unfolding refused_frame
good-number settings before r g =
    let (index, others) = both_true (within 0 settings r.setting) _ g in
    (both_true (is_number r.number) _ others).0

each_number : (settings : ℕ) (before l : List RefusedFrame) → good_each (refused_frame settings).good before l ≡ true
    → (i : ℕ) (z : RefusedFrame) → i < length l → is_number (get_or l i z).number ≡ true
unfolding good_each
each_number settings before [] g i z h = absurd (omega arith)
each_number settings before (r ∷ rest) g zero z h = good-number settings before r (both_true ((refused_frame settings).good before r) _ g).0
each_number settings before (r ∷ rest) g (suc i) z h =
    each_number settings (before ++ (r ∷ [])) rest (both_true ((refused_frame settings).good before r) _ g).1 i z (omega arith)

none-eight : (e : Day) → good_day kind1 e ≡ true → (i : ℕ) (z : RefusedFrame) → i < length e.refused → (get_or e.refused i z).number ≡ 8 → ⊥
unfolding good_day good_section
none-eight e good i z h eight =
    let n : ℕ = length e.settings in
    let (settings, others) = both_true (good_section setting 255 e.settings) _ good in
    let (frames, refused) = both_true (good_section (frame n) 255 e.frames) _ others in
    let (few, each) = both_true (leb (length e.refused) 255) _ refused in
    true≢false (sym (each_number n [] e.refused each i z h) ∙ ap is_number eight)

-- No file that is taken has a refused frame with the number 8.
pub never-eight : (bytes : List ℕ) (e : Day) → judged kind1 bytes ≡ taken e → (i : ℕ) (z : RefusedFrame) → i < length e.refused → (get_or e.refused i z).number ≡ 8 → ⊥
never-eight bytes e t = none-eight e (is-the-file bytes e t).0

-- Where it stands as a refused frame's number, the reading of that entry, and so of the file, stops with 16 at that byte.
pub eight-refused : (settings at : ℕ) (before : List RefusedFrame) (bytes : List ℕ) → at + 1 < length bytes → within 0 settings (get_or bytes at 0) ≡ true
    → get_or bytes (at + 1) 0 ≡ 8 → walk ((refused_frame settings).read before) bytes at ≡ stop 16 (at + 1)
unfolding refused_frame walk one ◌>>=◌
eight-refused settings at before bytes h index eight =
    rw (lt-ltb at (length bytes) (omega arith), index, lt-ltb (at + 1) (length bytes) h, eight)

-- rows of which one has it are no entries that a file can hold
row-bad : (ss fs ps rs : List ℕ) (i : ℕ) → i < length rs / 3 → get_or rs (3 * i + 1) 0 ≡ 8 → good_day kind1 (entries_of ss fs ps rs) ≡ false
unfolding entries_of refused_row
row-bad ss fs ps rs i h eight =
    let row : RefusedFrame = refused_row rs i in
    let at = get_or-tab (length rs / 3) (refused_row rs) i row h in
    refuted _ (λ good. none-eight (entries_of ss fs ps rs) good i row (rw length-tab h) (ap (λ (x : RefusedFrame). x.number) at ∙ eight))

-- A row with it is refused by the writer with 16, place 0.
pub eight-not-written : (ss fs ps rs old new : List ℕ) (r : Result ℕ Refusal) → Writing kind1 ss fs ps rs old new r → (i : ℕ) → i < length rs / 3
    → get_or rs (3 * i + 1) 0 ≡ 8 → r ≡ refuse 16 0
unfolding write_of
eight-not-written ss fs ps rs old new r w i h eight = w.answer ∙ rw (row-bad ss fs ps rs i h eight, and-false)
