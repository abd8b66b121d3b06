-- Laws of rows of numbers: the tests that they passed say which numbers fit in a byte and which bytes are there.
-- Assumes nothing.
use mathlib.Core.Path.{◌≡◌, refl}
use mathlib.Core.Bool.{Bool, true, false, ◌||◌}
use mathlib.Core.List.{List, []}
use mathlib.Core.Logic.{⊎_elim}
use Prim.Native.Nat.{ℕ, zero, suc, ◌+◌, ◌*◌, ◌/◌, ◌%◌, ◌<◌, ◌≤◌}
use native.Mathlib.Nat.{not-suc-le-zero, eq-or-lt_of_le, le_of_suc-le-suc}
use native.Mathlib.Numerals.{add-one}
use native.Mathlib.Omega.{arith}
use borrow.Author.Tests.{ltb-true, leb-true, eqb-true, lt-ltb, le-leb}
use lib.Dec.{leb, ltb, eqb}
use lib.ListN.{length, get_or, take, drop, length-drop}
use lib.Seq.{length-take-le}
use Rattle.bits.specs.Tab.{tab}
use Rattle.bits.proofs.Tabs.{length-tab}
use Rattle.day.specs.Script.{Form, good_each}
use Rattle.day.specs.Day.{Frame, RefusedFrame, Day, kind1, within, is_byte, is_flag, is_cr, is_number, setting, frame, refused_frame, good_section, good_day}
use Rattle.day.specs.Stages.{pair_at}
use Rattle.day.proofs.ScriptLaws.{both_true, true-both}
use Rattle.day_write.specs.Write.{lengths_before, frame_row, refused_row, entries_of, whole_rows}
use Rattle.day_write.specs.Parts.{FramesFit, RefusedFit, FrameFits, RefusedFits}
use Rattle.day_write.proofs.EachLaws.{good_each-at, good_each-by}

-- a test of a range that a number passed
below : (low end n : ℕ) → within low end n ≡ true → n < end
below low end n t = ltb-true n end (both_true (leb low n) (ltb n end) t).1

-- the same with a wider range
wider : (end more n : ℕ) → end ≤ more → within 0 end n ≡ true → within 0 more n ≡ true
wider end more n h t = true-both {p = leb 0 n} (le-leb 0 n (omega arith)) (lt-ltb n more (omega (arith, below 0 end n t)))

-- the fields of good entries
frame_below : (settings : ℕ) (before : List Frame) (f : Frame) → (frame settings).good before f ≡ true
    → (f.setting < settings) × (f.cr < 5) × (f.flag < 2) × (length f.payload < 256)
unfolding frame
frame_below settings before f g =
    let (index, a) = both_true (within 0 settings f.setting) _ g in
    let (cr, b) = both_true (is_cr f.cr) _ a in
    let (flag, c) = both_true (is_flag f.flag) _ b in
    let (repairs, d) = both_true (leb f.repairs 65535) _ c in
    let (len, bytes) = both_true (is_byte (length f.payload)) _ d in
    (below 0 settings _ index, below 1 5 _ cr, below 0 2 _ flag, below 0 256 _ len)

number-below : (n : ℕ) → is_number n ≡ true → n < 13
number-below n t = at (within 4 8 n) refl t
  where
    at : (b : Bool) → within 4 8 n ≡ b → b || within 9 13 n ≡ true → n < 13
    at true e u = omega (arith, below 4 8 n e)
    at false e u = below 9 13 n u

refused-below : (settings : ℕ) (before : List RefusedFrame) (r : RefusedFrame) → (refused_frame settings).good before r ≡ true → (r.setting < settings) × (r.number < 13)
unfolding refused_frame
refused-below settings before r g =
    let (index, a) = both_true (within 0 settings r.setting) _ g in
    let (number, place) = both_true (is_number r.number) _ a in
    (below 0 settings _ index, number-below _ number)

-- good entries are good where there are more settings
module _ (settings more : ℕ) (h : settings ≤ more) where
  frame-wider : (before : List Frame) (f : Frame) → (frame settings).good before f ≡ true → (frame more).good before f ≡ true
  unfolding frame
  frame-wider before f g =
      let (index, rest) = both_true (within 0 settings f.setting) _ g in
      true-both (wider settings more f.setting h index) rest

  refused-wider : (before : List RefusedFrame) (r : RefusedFrame) → (refused_frame settings).good before r ≡ true → (refused_frame more).good before r ≡ true
  unfolding refused_frame
  refused-wider before r g =
      let (index, rest) = both_true (within 0 settings r.setting) _ g in
      true-both (wider settings more r.setting h index) rest

-- a good section: at most so many entries, and each is good
module _ {A : Type 0} (form : Form A) where
  section-good : (l : List A) → good_section form 255 l ≡ true → (length l ≤ 255) × (good_each form.good [] l ≡ true)
  unfolding good_section
  section-good l g =
      let (count, each) = both_true (leb (length l) 255) (good_each form.good [] l) g in
      (leb-true (length l) 255 count, each)

  section-by : (other : Form A) → ((before : List A) (a : A) → form.good before a ≡ true → other.good before a ≡ true)
      → (l : List A) → good_section form 255 l ≡ true → good_section other 255 l ≡ true
  unfolding good_section
  section-by other h l g =
      let (count, each) = section-good l g in
      true-both {p = leb (length l) 255} (le-leb (length l) 255 count) (good_each-by form.good other.good h [] l each)

day-good : (e : Day) → good_day kind1 e ≡ true
    → (good_section setting 255 e.settings ≡ true) × (good_section (frame (length e.settings)) 255 e.frames ≡ true) × (good_section (refused_frame (length e.settings)) 255 e.refused ≡ true)
unfolding good_day
day-good e g =
    let (settings, rest) = both_true (good_section setting 255 e.settings) _ g in
    let (frames, refused) = both_true (good_section (frame (length e.settings)) 255 e.frames) _ rest in
    (settings, frames, refused)

-- the payload of frame i is as long as its row says
module _ (fs ps : List ℕ) (i : ℕ) where
  abbrev pub payload : List ℕ
  payload = take (get_or fs (5 * i + 4) 0) (drop (lengths_before fs i) ps)

  pub payload-long : lengths_before fs i + get_or fs (5 * i + 4) 0 ≤ length ps → length payload ≡ get_or fs (5 * i + 4) 0
  payload-long h = length-take-le _ (drop (lengths_before fs i) ps) (rw length-drop (omega arith))

  -- the frame's fields of one byte each
  pub frame-cells : FrameFits fs ps i → (get_or fs (5 * i) 0 < 256) × (get_or fs (5 * i + 1) 0 < 256) × (get_or fs (5 * i + 2) 0 < 256) × (get_or fs (5 * i + 4) 0 < 256)
  unfolding frame_row
  frame-cells fits =
      let (index, cr, flag, len) = frame_below 255 _ (frame_row fs ps i) fits.good in
      (omega (arith, index), omega (arith, cr), omega (arith, flag), omega (arith, len, payload-long fits.whole))

-- a refused frame's
module _ (rs : List ℕ) (i : ℕ) where
  pub refused-cells : RefusedFits rs i → (get_or rs (3 * i) 0 < 256) × (get_or rs (3 * i + 1) 0 < 256)
  unfolding refused_row
  refused-cells fits =
      let (index, number) = refused-below 255 _ (refused_row rs i) fits.good in
      (omega (arith, index), omega (arith, number))

-- the payloads of the frames before one, and its own
module _ (fs : List ℕ) where
  pub lengths_none : 0 ≡ lengths_before fs 0
  unfolding lengths_before
  lengths_none = refl

  pub lengths-more : (i : ℕ) → lengths_before fs i + get_or fs (5 * i + 4) 0 ≡ lengths_before fs (i + 1)
  unfolding lengths_before
  lengths-more i = rw add-one

  lengths-within : (n i : ℕ) → i < n → lengths_before fs i + get_or fs (5 * i + 4) 0 ≤ lengths_before fs n
  lengths-within zero i h = absurd (not-suc-le-zero h)
  lengths-within (suc n) i h =
      let more = rw add-one at (lengths-more n) in
      ⊎_elim (λ e. rw e (omega (arith, more))) (λ l. omega (arith, more, lengths-within n i l)) (eq-or-lt_of_le (le_of_suc-le-suc h))

-- rows that fit: how many they are, and that each fits
module _ (fs ps : List ℕ) (fit : FramesFit fs ps) where
  pub frames-count : length fs / 5 ≤ 255
  frames-count = rw (length-tab (length fs / 5) (frame_row fs ps)) at (section-good (frame 255) _ fit.good).0

  pub frame-fits : (i : ℕ) → i < length fs / 5 → FrameFits fs ps i
  frame-fits i h = record {
    there = omega arith;
    good = good_each-at (frame 255).good (length fs / 5) i (frame_row fs ps) h (section-good (frame 255) _ fit.good).1;
    whole = omega (arith, lengths-within fs (length fs / 5) i h, fit.whole);
  }

module _ (rs : List ℕ) (fit : RefusedFit rs) where
  pub refused-count : length rs / 3 ≤ 255
  refused-count = rw (length-tab (length rs / 3) (refused_row rs)) at (section-good (refused_frame 255) _ fit.good).0

  pub refused-fits : (i : ℕ) → i < length rs / 3 → RefusedFits rs i
  refused-fits i h = record {
    there = omega arith;
    good = good_each-at (refused_frame 255).good (length rs / 3) i (refused_row rs) h (section-good (refused_frame 255) _ fit.good).1;
  }

-- rows that a file can hold
module _ (ss fs ps rs : List ℕ) where
  -- what the rows' tests come to
  pub record Fit : Type 0 where
    pub pairs : length ss % 2 ≡ 0
    pub settings : length ss / 2 ≤ 255
    pub frames : FramesFit fs ps
    pub refused : RefusedFit rs

  pub fit : whole_rows ss fs ps rs ≡ true → good_day kind1 (entries_of ss fs ps rs) ≡ true → Fit
  unfolding whole_rows entries_of
  fit w g =
      let (pairs, a) = both_true (eqb (length ss % 2) 0) _ w in
      let (fives, b) = both_true (eqb (length fs % 5) 0) _ a in
      let (threes, lengths) = both_true (eqb (length rs % 3) 0) _ b in
      let (settings, frames, refused) = day-good (entries_of ss fs ps rs) g in
      let (few, each) = section-good setting (tab (length ss / 2) (pair_at 0 ss)) settings in
      record {
        pairs = eqb-true (length ss % 2) 0 pairs;
        settings = rw (length-tab (length ss / 2) (pair_at 0 ss)) at few;
        frames = record {
          good = section-by (frame (length (tab (length ss / 2) (pair_at 0 ss)))) (frame 255) (frame-wider _ 255 few) (tab (length fs / 5) (frame_row fs ps)) frames;
          whole = eqb-true (lengths_before fs (length fs / 5)) (length ps) lengths;
        };
        refused = record { good = section-by (refused_frame (length (tab (length ss / 2) (pair_at 0 ss)))) (refused_frame 255) (refused-wider _ 255 few) (tab (length rs / 3) (refused_row rs)) refused };
      }
