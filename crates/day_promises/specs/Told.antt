-- What a walker tells on its way through a file.
-- Assumes nothing.
use Rattle.std.specs.Prelude.{List, [], ◌∷◌, ◌++◌, map, ℕ, zero, suc, ◌+◌, ◌-◌, length, Result, Ok, Err}
use Rattle.refusal.specs.declared.Refusal.{Refusal}
use Rattle.day.specs.Day.{Setting, Frame, RefusedFrame, Day, Kind}
use Rattle.day.specs.Walk.{shown, payload_of, behind}
use Rattle.day.specs.declared.Place.{Place}
use Rattle.day.specs.declared.Entry.{Entry}
use Rattle.day.specs.declared.Entry.TheVariants.{Setting as SettingHere, Frame as FrameHere, Refused as RefusedHere, End}

-- an entry of any section, whole; a setting with its index
pub data Told : Type 0 where
  a_setting : ℕ → Setting → Told
  a_frame : Frame → Told
  a_refused : RefusedFrame → Told

-- what is told at a place, with the payload that is shown there
abbrev pub told : Result Entry Refusal → List ℕ → List Told
told (Ok (SettingHere sf low next)) payload = a_setting (next.settings - 1 - next.left) (record { sf = sf; low = low }) ∷ []
told (Ok (FrameHere setting cr flag repairs start next)) payload = a_frame (record { setting = setting; cr = cr; flag = flag; repairs = repairs; payload = payload }) ∷ []
told (Ok (RefusedHere setting number place next)) payload = a_refused (record { setting = setting; number = number; place = place }) ∷ []
told (Ok End) payload = []
told (Err e) payload = []

-- in so many steps from a place on, and the place to which they lead
unfoldable pub told_in : Kind → List ℕ → ℕ → Place → List Told
told_in k bytes zero p = []
told_in k bytes (suc n) p = told (shown k bytes p) (payload_of (shown k bytes p) bytes) ++ told_in k bytes n (behind (shown k bytes p) p)

unfoldable pub place_after : Kind → List ℕ → ℕ → Place → Place
place_after k bytes zero p = p
place_after k bytes (suc n) p = place_after k bytes n (behind (shown k bytes p) p)

-- settings are numbered from 0 on
unfoldable pub numbered : ℕ → List Setting → List Told
numbered j [] = []
numbered j (s ∷ rest) = a_setting j s ∷ numbered (suc j) rest

-- the entries of a day, in the file's order, and how many there are
unfoldable pub entries_in : Day → List Told
entries_in e = numbered 0 e.settings ++ (map a_frame e.frames ++ map a_refused e.refused)

abbrev pub how_many : Day → ℕ
how_many e = length e.settings + (length e.frames + length e.refused)
