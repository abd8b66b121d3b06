-- Worked files, and what they are judged.
-- Assumes nothing.
use mathlib.Core.Path.{◌≡◌, refl}
use mathlib.Core.List.{[], ◌∷◌}
use Rattle.day.specs.Script.{◌>>=◌, one, many, walk, taken, refused, put_each}
use Rattle.day.specs.Day.{Day, kind1, given, two, low_first, count, put_count, setting, any_byte, frame, refused_frame, section, put_section, day, file_of, judged}

abbrev one-frame : Day
one-frame = record {
  settings = record { sf = 7; low = 1 } ∷ [];
  frames = record { setting = 0; cr = 4; flag = 1; repairs = 258; payload = 9 ∷ 8 ∷ [] } ∷ [];
  refused = record { setting = 0; number = 12; place = 3 } ∷ [];
}

pub examples :
    (judged kind1 (1 ∷ 1 ∷ 7 ∷ 1 ∷ 1 ∷ 0 ∷ 4 ∷ 1 ∷ 2 ∷ 1 ∷ 2 ∷ 9 ∷ 8 ∷ 1 ∷ 0 ∷ 12 ∷ 3 ∷ 0 ∷ []) ≡ taken one-frame)
    × (file_of kind1 one-frame ≡ (1 ∷ 1 ∷ 7 ∷ 1 ∷ 1 ∷ 0 ∷ 4 ∷ 1 ∷ 2 ∷ 1 ∷ 2 ∷ 9 ∷ 8 ∷ 1 ∷ 0 ∷ 12 ∷ 3 ∷ 0 ∷ []))
    × (judged kind1 [] ≡ refused 15 0)
    × (judged kind1 (2 ∷ []) ≡ refused 16 0)
    × (judged kind1 (1 ∷ 0 ∷ 0 ∷ 0 ∷ 5 ∷ []) ≡ refused 15 4)
    × (judged kind1 (1 ∷ 2 ∷ 7 ∷ 1 ∷ 7 ∷ 1 ∷ []) ≡ refused 16 5)
    × (judged kind1 (1 ∷ 0 ∷ 1 ∷ 0 ∷ []) ≡ refused 16 3)
    × (judged kind1 (1 ∷ 1 ∷ 7 ∷ 0 ∷ 0 ∷ 1 ∷ 0 ∷ 8 ∷ 0 ∷ 0 ∷ []) ≡ refused 16 7)
    × (judged kind1 (1 ∷ 1 ∷ 7 ∷ 0 ∷ 1 ∷ 0 ∷ 1 ∷ 0 ∷ 0 ∷ 0 ∷ 3 ∷ 9 ∷ []) ≡ refused 15 12)
unfolding judged day section count two one many walk ◌>>=◌ setting frame refused_frame any_byte given file_of put_section put_count low_first put_each
examples = (refl, refl, refl, refl, refl, refl, refl, refl, refl)
