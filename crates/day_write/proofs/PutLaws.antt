-- Laws of what is written: the bytes of each row, how long the parts are, and the file in its parts.
-- Assumes nothing.
use mathlib.Core.Path.{◌≡◌, refl, sym, ap, ◌∙◌}
use mathlib.Core.Bool.{false}
use mathlib.Core.List.{List, [], ◌∷◌, ◌++◌, append_assoc}
use Prim.Native.Nat.{ℕ, zero, suc, ◌+◌, ◌*◌, ◌/◌, ◌<◌, ◌≤◌}
use native.Mathlib.Nat.{zero-add}
use native.Mathlib.Numerals.{add-one}
use native.Mathlib.Omega.{arith}
use lib.ListN.{length, get_or, take, length-append}
use lib.Seq.{take-suc, length-take-le}
use Rattle.bits.specs.Tab.{tab}
use Rattle.bits.proofs.Tabs.{length-tab}
use Rattle.day.specs.Script.{Form, put_each}
use Rattle.day.specs.Day.{kind1, low_first, put_count, setting, any_byte, frame, refused_frame, put_section, file_of}
use Rattle.day.specs.Stages.{pair_at}
use Rattle.day_write.specs.Write.{lengths_before, frame_row, refused_row, entries_of}
use Rattle.day_write.specs.Parts.{settings_part, frames_part, refused_part}
use Rattle.day_write.proofs.EachLaws.{put_each-none, put_each-more, put_each-more-length, put_each-room}
use Rattle.day_write.proofs.RowLaws.{payload, payload-long, lengths_none, lengths-more, Fit}

-- a payload is written as it is
put_payload : (l : List ℕ) → put_each any_byte.put l ≡ l
unfolding put_each any_byte
put_payload [] = refl
put_payload (b ∷ l) = rw (put_payload l)

-- a section is its count and its entries
module _ {A : Type 0} (form : Form A) (n : ℕ) (f : ℕ → A) where
  pub section-is : put_section form false (tab n f) ≡ put_count false n ++ put_each form.put (tab n f)
  unfolding put_section
  section-is = rw (length-tab n f)

  pub section-length : length (put_section form false (tab n f)) ≡ 1 + length (put_each form.put (tab n f))
  unfolding put_count
  section-length = rw section-is (omega arith)

-- where a section has room, its next entry has, behind the count and those before it
pub section-room : {A : Type 0} (form : Form A) (n i : ℕ) (f : ℕ → A) → i < n
    → 1 + length (put_each form.put (tab i f)) + length (form.put (f i)) ≤ length (put_section form false (tab n f))
section-room form n i f h = omega (arith, section-length form n f, put_each-room form.put n i f h)

-- the setting of row i
module _ (ss : List ℕ) (i : ℕ) where
  setting-put : setting.put (pair_at 0 ss i) ≡ get_or ss (2 * i) 0 ∷ get_or ss (2 * i + 1) 0 ∷ []
  unfolding setting pair_at
  setting-put = rw (zero-add (2 * i))

-- the frame of row i
module _ (fs ps : List ℕ) (i : ℕ) where
  pub frame-put : lengths_before fs i + get_or fs (5 * i + 4) 0 ≤ length ps → (frame 255).put (frame_row fs ps i)
      ≡ get_or fs (5 * i) 0 ∷ get_or fs (5 * i + 1) 0 ∷ get_or fs (5 * i + 2) 0 ∷ (low_first (get_or fs (5 * i + 3) 0) ++ (get_or fs (5 * i + 4) 0 ∷ payload fs ps i))
  unfolding frame frame_row
  frame-put h = rw (payload-long fs ps i h, put_payload (payload fs ps i))

  pub frame-length : lengths_before fs i + get_or fs (5 * i + 4) 0 ≤ length ps → length ((frame 255).put (frame_row fs ps i)) ≡ 6 + get_or fs (5 * i + 4) 0
  unfolding low_first
  frame-length h = ap length (frame-put h) ∙ omega (arith, payload-long fs ps i h)

-- the refused frame of row i
module _ (rs : List ℕ) (i : ℕ) where
  pub refused-put : (refused_frame 255).put (refused_row rs i) ≡ get_or rs (3 * i) 0 ∷ get_or rs (3 * i + 1) 0 ∷ low_first (get_or rs (3 * i + 2) 0)
  unfolding refused_frame refused_row
  refused-put = refl

  pub refused-length : length ((refused_frame 255).put (refused_row rs i)) ≡ 4
  unfolding low_first
  refused-length = ap length refused-put

-- the lengths of the parts
settings-bytes : (ss : List ℕ) (k : ℕ) → 2 * k ≤ length ss → put_each setting.put (tab k (pair_at 0 ss)) ≡ take (2 * k) ss
settings-bytes ss zero h = sym (put_each-none setting.put (pair_at 0 ss))
settings-bytes ss (suc k) h =
    let two : 2 * suc k ≡ suc (suc (2 * k)) = omega arith in
    let next : 2 * k + 1 ≡ suc (2 * k) = omega arith in
    rw add-one at (sym (put_each-more setting.put k (pair_at 0 ss))) ∙ rw (settings-bytes ss k (omega arith), setting-put ss k, two, take-suc ss (suc (2 * k)) 0 (omega arith), take-suc ss (2 * k) 0 (omega arith), next)
    (sym (append_assoc (take (2 * k) ss) (get_or ss (2 * k) 0 ∷ []) (get_or ss (suc (2 * k)) 0 ∷ [])))

settings-length : (ss : List ℕ) (k : ℕ) → 2 * k ≤ length ss → length (put_each setting.put (tab k (pair_at 0 ss))) ≡ 2 * k
settings-length ss k h = ap length (settings-bytes ss k h) ∙ length-take-le _ _ h

-- the settings' section is their count and their rows
pub settings-section : (ss : List ℕ) → settings_part ss ≡ put_count false (length ss / 2) ++ take (2 * (length ss / 2)) ss
unfolding settings_part
settings-section ss = section-is setting (length ss / 2) (pair_at 0 ss) ∙ ap (put_count false (length ss / 2) ++◌) (settings-bytes ss (length ss / 2) (omega arith))

pub settings-room : (ss : List ℕ) → length (settings_part ss) ≡ 1 + length (take (2 * (length ss / 2)) ss)
unfolding put_count
settings-room ss = ap length (settings-section ss) ∙ omega arith

frames-length : (fs ps : List ℕ) (k : ℕ) → lengths_before fs k ≤ length ps → length (put_each (frame 255).put (tab k (frame_row fs ps))) ≡ 6 * k + lengths_before fs k
frames-length fs ps zero h = rw (← put_each-none (frame 255).put (frame_row fs ps)) (omega (arith, lengths_none fs))
frames-length fs ps (suc k) h =
    let more = rw add-one at (lengths-more fs k) in
    omega (
      arith,
      more,
      rw add-one at (put_each-more-length (frame 255).put k (frame_row fs ps)),
      frames-length fs ps k (omega (arith, more)),
      frame-length fs ps k (omega (arith, more)),
    )

refuseds-length : (rs : List ℕ) (k : ℕ) → length (put_each (refused_frame 255).put (tab k (refused_row rs))) ≡ 4 * k
refuseds-length rs zero = rw (← put_each-none (refused_frame 255).put (refused_row rs))
refuseds-length rs (suc k) =
    omega (arith, rw add-one at (put_each-more-length (refused_frame 255).put k (refused_row rs)), refuseds-length rs k, refused-length rs k)

-- the file of rows that it can hold
module _ (ss fs ps rs : List ℕ) where
  pub file-is : file_of kind1 (entries_of ss fs ps rs) ≡ 1 ∷ (settings_part ss ++ (frames_part fs ps ++ refused_part rs))
  unfolding file_of entries_of settings_part frames_part refused_part put_section frame refused_frame
  file-is = refl

  pub file-length : length (file_of kind1 (entries_of ss fs ps rs)) ≡ 1 + length (settings_part ss) + length (frames_part fs ps) + length (refused_part rs)
  file-length = ap length file-is ∙ simp length-append (omega arith)

  pub bytes-in-all : Fit ss fs ps rs → length (file_of kind1 (entries_of ss fs ps rs)) ≡ 4 + length ss + 6 * (length fs / 5) + length ps + 4 * (length rs / 3)
  unfolding settings_part frames_part refused_part
  bytes-in-all f = omega (
    arith,
    file-length,
    section-length setting (length ss / 2) (pair_at 0 ss),
    section-length (frame 255) (length fs / 5) (frame_row fs ps),
    section-length (refused_frame 255) (length rs / 3) (refused_row rs),
    settings-length ss (length ss / 2) (omega arith),
    frames-length fs ps (length fs / 5) (omega (arith, f.frames.whole)),
    refuseds-length rs (length rs / 3),
    f.pairs,
    f.frames.whole,
  )
