-- What the steps of the reader answer.
-- Assumes nothing.
use Rattle.std.specs.Prelude.{Bool, false, List, ℕ, zero, suc, ◌+◌, ◌-◌, ◌*◌, ◌/◌, ltb, length, get_or, Result, Ok, Err, MatchResult, ◌≡◌}
use Rattle.refusal.specs.Refusal.{refuse}
use Rattle.refusal.specs.declared.Refusal.{Refusal}
use Rattle.bits.specs.Check.{check}
use Rattle.bits.specs.Tab.{tab}
use Rattle.day.specs.Script.{Script, Walked, came, stop, walk, Judged, taken, refused}
use Rattle.day.specs.Day.{Frame, RefusedFrame, Setting, Day, count}
use Rattle.day.specs.declared.entries.FrameAt.{FrameAt}
use Rattle.day.specs.declared.entries.RefusedAt.{RefusedAt}
use Rattle.day.specs.declared.entries.SettingAt.{SettingAt}
use Rattle.day.specs.declared.sections.Part.{Part}
use Rattle.day.specs.declared.Taken.{Taken}

-- the byte at a place: missing, outside its range, or neither
abbrev pub tested : Bool → List ℕ → ℕ → Result ℕ Refusal
tested fine bytes at = check (ltb at (length bytes)) (refuse 15 at) (check fine (refuse 16 at) (Ok (get_or bytes at 0)))

-- what was read, told with the place behind it, or the refusal
abbrev pub told_by : {A B : Type 0} → (A → ℕ → B) → Walked A → Result B Refusal
told_by f (came a next) = Ok (f a next)
told_by f (stop number place) = refuse number place

-- what a script reads, up to the place next; or its refusal
abbrev pub Reads : {A : Type 0} → Script A → List ℕ → ℕ → ℕ → Result A Refusal → Type 0
Reads s bytes at next r = MatchResult r (λ a. walk s bytes at ≡ came a next) (λ e. walk s bytes at ≡ stop e.number e.place)

-- the place behind what was read, and nothing of what it is
unfoldable pub spot : {A : Type 0} → Walked A → Result ℕ Refusal
spot w = told_by (λ a next. next) w

-- a frame by its fields and the place of its payload
unfoldable pub frame_seen : Walked Frame → Result FrameAt Refusal
frame_seen w = told_by (λ f next. record { setting = f.setting; cr = f.cr; flag = f.flag; repairs = f.repairs; start = next - length f.payload; end = next }) w

unfoldable pub setting_seen : Walked Setting → Result SettingAt Refusal
setting_seen w = told_by (λ s next. record { sf = s.sf; low = s.low; end = next }) w

unfoldable pub refused_seen : Walked RefusedFrame → Result RefusedAt Refusal
refused_seen w = told_by (λ r next. record { setting = r.setting; number = r.number; place = r.place; end = next }) w

-- pair k of those that stand from a place on
unfoldable pub pair_at : ℕ → List ℕ → ℕ → Setting
pair_at from bytes k = record { sf = get_or bytes (from + 2 * k) 0; low = get_or bytes (from + 2 * k + 1) 0 }

-- the settings before a place: a file's first stands behind the first byte and the count
unfoldable pub settings_before : List ℕ → ℕ → List Setting
settings_before bytes at = tab ((at - 2) / 2) (pair_at 2 bytes)

-- so many calls of a step, each from the place to which the one before it led
unfoldable pub Steps : (ℕ → Result ℕ Refusal → Type 0) → ℕ → ℕ → Result ℕ Refusal → Type 0
Steps Call zero at r = r ≡ Ok at
Steps Call (suc n) at r = (a : Result ℕ Refusal) × Call at a × MatchResult a (λ next. Steps Call n next r) (λ e. r ≡ Err e)

-- a section by the number of its entries and the place behind it
abbrev pub part_of : ℕ → Result ℕ Refusal → Result Part Refusal
part_of entries (Ok end) = Ok (record { entries = entries; end = end })
part_of entries (Err e) = Err e

-- its entries are passed by a step, once its count n was read
abbrev pub Section : (ℕ → Result ℕ Refusal → Type 0) → List ℕ → ℕ → Result Part Refusal → Type 0
Section Call bytes at r =
    (n : Result ℕ Refusal) × Reads (count false 255) bytes at (at + 1) n
    × MatchResult n (λ k. (a : Result ℕ Refusal) × Steps Call k (at + 1) a × (r ≡ part_of k a)) (λ e. r ≡ Err e)

unfoldable pub numbered : {A : Type 0} → Walked (List A) → Result Part Refusal
numbered w = told_by (λ entries next. record { entries = length entries; end = next }) w

-- a file by the numbers of its entries, or its refusal
unfoldable pub verdict : Judged Day → Result Taken Refusal
verdict (taken e) = Ok (record { settings = length e.settings; frames = length e.frames; refused = length e.refused })
verdict (refused number place) = refuse number place
