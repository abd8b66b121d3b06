-- What is shown of a day's file: a line for each entry, in order, and a last line, so that a listing that was cut can be seen; or
-- the one line of a refusal. Numbers are decimal, a payload is in capital hex.
-- Assumes nothing.
use mathlib.Core.List.{List, [], ◌∷◌, ◌++◌, flat_map}
use Rattle.std.specs.Prelude.{ℕ, ◌+◌, ◌-◌, length, Result, Ok, Err}
use Rattle.refusal.specs.declared.Refusal.{Refusal}
use Rattle.line.specs.Line.{field, shown}
use Rattle.day.specs.Script.{Judged, taken, refused}
use Rattle.day.specs.Day.{Setting, Frame, RefusedFrame, Day, kind1, judged}
use Rattle.day.specs.declared.Entry.{Entry}
use Rattle.day.specs.declared.Entry.TheVariants.{Setting as SettingHere, Frame as FrameHere, Refused as RefusedHere, End}

-- setting INDEX SF LOW
unfoldable pub setting_line : ℕ → ℕ → ℕ → List ℕ
setting_line index sf low = (115 ∷ 101 ∷ 116 ∷ 116 ∷ 105 ∷ 110 ∷ 103 ∷ []) ++ (field index ++ (field sf ++ (field low ++ (10 ∷ []))))

-- frame INDEX CR FLAG REPAIRS LENGTH HEX
unfoldable pub frame_line : ℕ → ℕ → ℕ → ℕ → List ℕ → List ℕ
frame_line index cr flag repairs payload =
    (102 ∷ 114 ∷ 97 ∷ 109 ∷ 101 ∷ [])
    ++ (field index ++ (field cr ++ (field flag ++ (field repairs ++ (field (length payload) ++ ((32 ∷ shown payload) ++ (10 ∷ [])))))))

-- refused INDEX NUMBER PLACE
unfoldable pub refused_line : ℕ → ℕ → ℕ → List ℕ
refused_line index number place = (114 ∷ 101 ∷ 102 ∷ 117 ∷ 115 ∷ 101 ∷ 100 ∷ []) ++ (field index ++ (field number ++ (field place ++ (10 ∷ []))))

-- end FRAMES REFUSED
unfoldable pub end_line : ℕ → ℕ → List ℕ
end_line frames refusals = (101 ∷ 110 ∷ 100 ∷ []) ++ (field frames ++ (field refusals ++ (10 ∷ [])))

-- no NUMBER PLACE
unfoldable pub no_line : ℕ → ℕ → List ℕ
no_line number place = (110 ∷ 111 ∷ []) ++ (field number ++ (field place ++ (10 ∷ [])))

-- settings are numbered from 0
unfoldable pub setting_lines : ℕ → List Setting → List ℕ
setting_lines index [] = []
setting_lines index (s ∷ rest) = setting_line index s.sf s.low ++ setting_lines (index + 1) rest

abbrev pub line_of_frame : Frame → List ℕ
line_of_frame f = frame_line f.setting f.cr f.flag f.repairs f.payload

abbrev pub line_of_refused : RefusedFrame → List ℕ
line_of_refused r = refused_line r.setting r.number r.place

unfoldable pub listing : Judged Day → List ℕ
listing (taken e) =
    setting_lines 0 e.settings
    ++ (flat_map line_of_frame e.frames ++ (flat_map line_of_refused e.refused ++ end_line (length e.frames) (length e.refused)))
listing (refused number place) = no_line number place

-- all that is shown of a file
unfoldable pub shown_file : List ℕ → List ℕ
shown_file bytes = listing (judged kind1 bytes)

-- the line of an entry that a walker came upon; a setting's number is how many stand before it
unfoldable pub entry_line : Result Entry Refusal → List ℕ → List ℕ
entry_line (Ok (SettingHere sf low next)) payload = setting_line (next.settings - 1 - next.left) sf low
entry_line (Ok (FrameHere setting cr flag repairs start next)) payload = frame_line setting cr flag repairs payload
entry_line (Ok (RefusedHere setting number place next)) payload = refused_line setting number place
entry_line (Ok End) payload = []
entry_line (Err e) payload = []
