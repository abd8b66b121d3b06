-- The tests on the rows make up the judgement of the entries.
-- Assumes nothing.
use mathlib.Core.Path.{◌≡◌, refl, sym, ap, ◌∙◌}
use mathlib.Core.Bool.{Bool, true, false, not, ◌&&◌, and-true, and-false}
use mathlib.Core.List.{List, [], ◌∷◌, ◌++◌, append_assoc, append-nil}
use Prim.Native.Nat.{ℕ, zero, suc, ◌+◌, ◌*◌, ◌/◌, ◌%◌, ◌<◌, ◌≤◌}
use native.Mathlib.Nat.{zero-add}
use native.Mathlib.Numerals.{add-one}
use native.Mathlib.Omega.{arith}
use borrow.Author.Tests.{not-true, not-false, le-leb, lt-ltb, leb-true, eq-eqb, ne_eqb}
use lib.Dec.{leb, eqb}
use lib.ListN.{length, get_or, take, drop, length-drop}
use lib.Seq.{length-take-le, get_or-drop}
use Rattle.std.specs.List.{list_all, range_with_len}
use Rattle.std.proofs.lemmas.List.Folds.{list_all-append}
use Rattle.bits.specs.Tab.{tab, Bytes}
use Rattle.bits.proofs.Tabs.{length-tab}
use Rattle.day.specs.Script.{good_each}
use Rattle.day.specs.Day.{Frame, RefusedFrame, setting, any_byte, frame, refused_frame, good_section, kind1, good_day}
use Rattle.day.specs.Stages.{pair_at}
use Rattle.day.proofs.ScriptLaws.{both_true}
use Rattle.day_write.specs.Judging.{few_rows, row_good, rows_good}
use Rattle.day_write.specs.Write.{lengths_before, frame_row, refused_row, entries_of, whole_rows}

-- a test that the code made: the definition's test fails, or holds
pub fails : {r t : Bool} → r ≡ t → not r ≡ true → t ≡ false
fails {r} e f = sym e ∙ not-true r f

pub holds : {r t : Bool} → r ≡ t → not r ≡ false → t ≡ true
holds {r} e f = sym e ∙ not-false r f

-- one number more in a range, and in a test of all of them
range-more : (a n : ℕ) → range_with_len a (suc n) ≡ range_with_len a n ++ ((a + n) ∷ [])
range-more a zero = let z : a + 0 ≡ a = omega arith in rw z refl
range-more a (suc n) = let z : a + suc n ≡ a + 1 + n = omega arith in rw z (ap (a ∷◌) (range-more (a + 1) n))

all-more : (test : ℕ → Bool) (n : ℕ) → list_all test (range_with_len 0 (suc n)) ≡ list_all test (range_with_len 0 n) && test n
all-more test n = ap (list_all test) (range-more 0 n) ∙ list_all-append test (range_with_len 0 n) ((0 + n) ∷ []) ∙ rw (zero-add, and-true) refl

-- a list of entries with one more at its end
module _ {A : Type 0} (good : List A → A → Bool) where
  each_more : (before l : List A) (a : A) → good_each good before (l ++ (a ∷ [])) ≡ good_each good before l && good (before ++ l) a
  unfolding good_each
  each_more before [] a = and-true (good before a) ∙ ap (λ (l : List A). good l a) (sym (append-nil before))
  each_more before (x ∷ l) a =
      rw (each_more (before ++ (x ∷ [])) l a, append_assoc before (x ∷ []) l) (assoc (good before x) _ _)
    where
      assoc : (p q r : Bool) → p && (q && r) ≡ (p && q) && r
      assoc true q r = refl
      assoc false q r = refl

  -- each judged in the light of those before it
  pub all-each : (f : ℕ → A) (n : ℕ) → list_all (λ i. good (tab i f) (f i)) (range_with_len 0 n) ≡ good_each good [] (tab n f)
  unfolding good_each tab
  all-each f zero = refl
  all-each f (suc n) = all-more (λ i. good (tab i f) (f i)) n ∙ rw (all-each f n) (sym (each_more [] (tab n f) (f n)))

-- the number of rows
module _ (numbers row : ℕ) where
  pub few-most : few_rows numbers row ≡ true → numbers / row ≤ 255
  unfolding few_rows
  few-most e = leb-true (numbers / row) 255 (both_true (eqb (numbers % row) 0) (leb (numbers / row) 255) e).1

-- the sum of the lengths
module _ (rows : List ℕ) where
  pub lengths_none : 0 ≡ lengths_before rows 0
  unfolding lengths_before
  lengths_none = refl

  pub lengths-next : (i sum len : ℕ) → sum ≡ lengths_before rows i → len ≡ get_or rows (5 * i + 4) 0 → sum + len ≡ lengths_before rows (i + 1)
  unfolding lengths_before
  lengths-next i sum len p q = rw (p, q, add-one i)

-- a frame's row after the other
pub all-rows : (n : ℕ) (rows : List ℕ) (m : ℕ) → list_all (row_good n rows) (range_with_len 0 m) ≡ rows_good n rows m
unfolding rows_good
all-rows n rows zero = refl
all-rows n rows (suc m) = all-more (row_good n rows) m ∙ rw (all-rows n rows m) refl

-- bytes are good bytes, and so is every part of them
bytes_good : (before l : List ℕ) → Bytes l → good_each any_byte.good before l ≡ true
unfolding good_each any_byte
bytes_good before [] small = refl
bytes_good before (b ∷ l) small =
    rw (le-leb 0 b (omega arith), lt-ltb b 256 (small 0)) (bytes_good (before ++ (b ∷ [])) l (λ i. small (suc i)))

take-bytes : (n : ℕ) (l : List ℕ) → Bytes l → Bytes (take n l)
take-bytes zero l small i = omega arith
take-bytes (suc n) [] small i = omega arith
take-bytes (suc n) (b ∷ l) small zero = small 0
take-bytes (suc n) (b ∷ l) small (suc i) = take-bytes n l (λ j. small (suc j)) i

drop-bytes : (n : ℕ) (l : List ℕ) → Bytes l → Bytes (drop n l)
drop-bytes n l small i = rw (get_or-drop n l i 0) (small (n + i))

-- the frames with their payloads, which are as long as their rows say
module _ (n : ℕ) (rows payloads : List ℕ) (low : (i : ℕ) → get_or rows i 0 < 65536) (small : Bytes payloads) where
  row-frame : (before : List Frame) (i : ℕ) → lengths_before rows i + get_or rows (5 * i + 4) 0 ≤ length payloads → row_good n rows i ≡ (frame n).good before (frame_row rows payloads i)
  unfolding row_good frame frame_row
  row-frame before i h =
      let len : ℕ = get_or rows (5 * i + 4) 0 in
      let rest : List ℕ = drop (lengths_before rows i) payloads in
      let long : length (take len rest) ≡ len = length-take-le len rest (rw length-drop (omega arith)) in
      rw (
        long,
        bytes_good [] (take len rest) (take-bytes len rest (drop-bytes (lengths_before rows i) payloads small)),
        le-leb (get_or rows (5 * i + 3) 0) 65535 (omega (arith, low (5 * i + 3))),
        and-true,
      )

  pub rows-frames : (m : ℕ) → lengths_before rows m ≤ length payloads → rows_good n rows m ≡ good_each (frame n).good [] (tab m (frame_row rows payloads))
  unfolding rows_good lengths_before tab good_each
  rows-frames zero h = refl
  rows-frames (suc m) h =
      rw (rows-frames m (omega arith), row-frame (tab m (frame_row rows payloads)) m h)
      (sym (each_more (frame n).good [] (tab m (frame_row rows payloads)) (frame_row rows payloads m)))

-- it is judged alone
pub refused-alone : (n : ℕ) (before : List RefusedFrame) (r : RefusedFrame) → (refused_frame n).good [] r ≡ (refused_frame n).good before r
unfolding refused_frame
refused-alone n before r = refl

-- all tests, in the order of the code
module _ (ss fs ps rs : List ℕ) where
  abbrev Judgement : Bool
  Judgement = whole_rows ss fs ps rs && good_day kind1 (entries_of ss fs ps rs)

  abbrev settings_fine : Bool
  settings_fine = good_each setting.good [] (tab (length ss / 2) (pair_at 0 ss))

  abbrev frames_fine : Bool
  frames_fine = good_each (frame (length ss / 2)).good [] (tab (length fs / 5) (frame_row fs ps))

  abbrev refused_fine : Bool
  refused_fine = good_each (refused_frame (length ss / 2)).good [] (tab (length rs / 3) (refused_row rs))

  in_order : Judgement ≡ few_rows (length ss) 2 && (few_rows (length fs) 5 && (few_rows (length rs) 3
      && (eqb (lengths_before fs (length fs / 5)) (length ps) && (settings_fine && (frames_fine && refused_fine)))))
  unfolding whole_rows good_day good_section entries_of few_rows
  in_order =
      rw (length-tab (length ss / 2) (pair_at 0 ss), length-tab (length fs / 5) (frame_row fs ps), length-tab (length rs / 3) (refused_row rs))
      (turn (eqb (length ss % 2) 0) (eqb (length fs % 5) 0) (eqb (length rs % 3) 0) (eqb (lengths_before fs (length fs / 5)) (length ps))
      (leb (length ss / 2) 255) (leb (length fs / 5) 255) (leb (length rs / 3) 255) settings_fine frames_fine refused_fine)
    where
      turn : (a b c d x y z s f r : Bool) → (a && (b && (c && d))) && ((x && s) && ((y && f) && (z && r))) ≡ (a && x) && ((b && y) && ((c && z) && (d && (s && (f && r)))))
      turn false b c d x y z s f r = refl
      turn true b c d false y z s f r = and-false (b && (c && d))
      turn true false c d true y z s f r = refl
      turn true true c d true false z s f r = rw (and-false s, and-false (c && d))
      turn true true false d true true z s f r = refl
      turn true true true d true true false s f r = rw (and-false f, and-false s, and-false d)
      turn true true true d true true true s f r = refl

  pub settings-many : few_rows (length ss) 2 ≡ false → false ≡ Judgement
  settings-many e = sym (in_order ∙ rw e)

  module _ (s : few_rows (length ss) 2 ≡ true) where
    pub frames-many : few_rows (length fs) 5 ≡ false → false ≡ Judgement
    frames-many e = sym (in_order ∙ rw (s, e))

    module _ (f : few_rows (length fs) 5 ≡ true) where
      pub refused-many : few_rows (length rs) 3 ≡ false → false ≡ Judgement
      refused-many e = sym (in_order ∙ rw (s, f, e))

      module _ (r : few_rows (length rs) 3 ≡ true) (sum : ℕ) (is : sum ≡ lengths_before fs (length fs / 5)) where
        pub lengths-off : (sum ≡ length ps → ⊥) → false ≡ Judgement
        lengths-off h = sym (in_order ∙ rw (s, f, r, ← is, ne_eqb sum (length ps) h))

        module _ (h : sum ≡ length ps) where
          pub settings-bad : settings_fine ≡ false → false ≡ Judgement
          settings-bad e = sym (in_order ∙ rw (s, f, r, ← is, eq-eqb sum (length ps) h, e))

          module _ (fine : settings_fine ≡ true) (low : (i : ℕ) → get_or fs i 0 < 65536) (small : Bytes ps) where
            frames-fine : rows_good (length ss / 2) fs (length fs / 5) ≡ frames_fine
            frames-fine = rows-frames (length ss / 2) fs ps low small (length fs / 5) (omega arith)

            pub frames-bad : rows_good (length ss / 2) fs (length fs / 5) ≡ false → false ≡ Judgement
            frames-bad e = sym (in_order ∙ rw (s, f, r, ← is, eq-eqb sum (length ps) h, fine, ← frames-fine, e))

            pub all-good : rows_good (length ss / 2) fs (length fs / 5) ≡ true → refused_fine ≡ Judgement
            all-good e = sym (in_order ∙ rw (s, f, r, ← is, eq-eqb sum (length ps) h, fine, ← frames-fine, e))
