-- The writer: entries read off the lent lists of numbers, and what it answers.
-- Assumes nothing.
use Rattle.std.specs.Prelude.{Bool, ◌&&◌, List, ◌≡◌, ℕ, zero, suc, ◌+◌, ◌*◌, ◌/◌, ◌%◌, leb, eqb, length, get_or, take, drop, Result, Ok, Err}
use Rattle.refusal.specs.Refusal.{refuse}
use Rattle.refusal.specs.declared.Refusal.{Refusal}
use Rattle.bits.specs.Check.{check}
use Rattle.bits.specs.Tab.{tab, placed}
use Rattle.day.specs.Day.{Frame, RefusedFrame, Day, Kind, good_day, file_of}
use Rattle.day.specs.Stages.{pair_at}

-- a frame in five numbers: settings index, CR, flag, repairs, length; so long are the payloads of those before frame i
unfoldable pub lengths_before : List ℕ → ℕ → ℕ
lengths_before rows zero = 0
lengths_before rows (suc i) = lengths_before rows i + get_or rows (5 * i + 4) 0

unfoldable pub frame_row : List ℕ → List ℕ → ℕ → Frame
frame_row rows payloads i = record {
  setting = get_or rows (5 * i) 0;
  cr = get_or rows (5 * i + 1) 0;
  flag = get_or rows (5 * i + 2) 0;
  repairs = get_or rows (5 * i + 3) 0;
  payload = take (get_or rows (5 * i + 4) 0) (drop (lengths_before rows i) payloads);
}

-- a refused frame in three: settings index, number, place
unfoldable pub refused_row : List ℕ → ℕ → RefusedFrame
refused_row rows i = record { setting = get_or rows (3 * i) 0; number = get_or rows (3 * i + 1) 0; place = get_or rows (3 * i + 2) 0 }

-- a setting in two: SF, flag
unfoldable pub entries_of : List ℕ → List ℕ → List ℕ → List ℕ → Day
entries_of settings frames payloads refused = record {
  settings = tab (length settings / 2) (pair_at 0 settings);
  frames = tab (length frames / 5) (frame_row frames payloads);
  refused = tab (length refused / 3) (refused_row refused);
}

-- no row is cut short, and the payload bytes are as many as the lengths say
unfoldable pub whole_rows : List ℕ → List ℕ → List ℕ → List ℕ → Bool
whole_rows settings frames payloads refused =
    eqb (length settings % 2) 0 && (eqb (length frames % 5) 0 && (eqb (length refused % 3) 0
    && eqb (lengths_before frames (length frames / 5)) (length payloads)))

-- 16 with place 0 for entries that no file has; after that 4 when it lacks room
unfoldable pub write_of : Kind → List ℕ → List ℕ → List ℕ → List ℕ → ℕ → Result ℕ Refusal
write_of k ss fs ps rs room =
    let file : List ℕ = file_of k (entries_of ss fs ps rs) in
    check (whole_rows ss fs ps rs && good_day k (entries_of ss fs ps rs)) (refuse 16 0)
    (check (leb (length file) room) (refuse 4 (length file))
    (Ok (length file)))

-- a refusal leaves the lent bytes as they were, an acceptance has the file at their front
abbrev pub file_after : Result ℕ Refusal → List ℕ → List ℕ → List ℕ
file_after (Ok n) file old = placed 0 file old
file_after (Err e) file old = old

pub record Writing (k : Kind) (ss fs ps rs old new : List ℕ) (r : Result ℕ Refusal) : Type 0 where
  pub answer : r ≡ write_of k ss fs ps rs (length old)
  pub cells : new ≡ file_after r (file_of k (entries_of ss fs ps rs)) old
