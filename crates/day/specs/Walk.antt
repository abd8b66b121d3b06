-- A file walked entry by entry, from any place on.
-- Assumes nothing.
use Rattle.std.specs.Prelude.{false, cond, List, [], ℕ, zero, suc, ◌+◌, ◌-◌, eqb, length, take, drop, Result, Ok, Err}
use Rattle.refusal.specs.Refusal.{refuse}
use Rattle.refusal.specs.declared.Refusal.{Refusal}
use Rattle.day.specs.Script.{Script, done, ◌>>=◌, one, walk, Walked, came, stop}
use Rattle.day.specs.Day.{Setting, Frame, RefusedFrame, Kind, count, setting, frame, refused_frame}
use Rattle.day.specs.Stages.{settings_before}
use Rattle.day.specs.declared.Place.{Place}
use Rattle.day.specs.declared.Entry.{Entry}
use Rattle.day.specs.declared.Entry.TheVariants.{Setting as SettingHere, Frame as FrameHere, Refused as RefusedHere, End}

-- what a walker comes upon: an entry, how many its section has behind it, and how many settings the file has; or the end
pub data Found : Type 0 where
  a_setting : Setting → ℕ → ℕ → Found
  a_frame : Frame → ℕ → ℕ → Found
  a_refused : RefusedFrame → ℕ → ℕ → Found
  the_end : Found

-- in each section, with so many entries left; where none is left the next section follows
unfoldable pub in_refused : ℕ → ℕ → Script Found
in_refused settings zero = done the_end
in_refused settings (suc left) = (refused_frame settings).read [] >>= λ r. done (a_refused r left settings)

unfoldable pub in_frames : Kind → ℕ → ℕ → Script Found
in_frames k settings zero = count k.wide k.most >>= in_refused settings
in_frames k settings (suc left) = (frame settings).read [] >>= λ f. done (a_frame f left settings)

unfoldable pub in_settings : Kind → List Setting → ℕ → ℕ → Script Found
in_settings k earlier settings zero = count k.wide k.most >>= in_frames k settings
in_settings k earlier settings (suc left) = setting.read earlier >>= λ s. done (a_setting s left settings)

-- before the first byte; no setting is earlier than the first
unfoldable pub at_start : Kind → List Setting → Script Found
at_start k earlier = do
  _ ← one (λ b. eqb b k.mark)
  n ← count false 255
  in_settings k earlier n n

-- it is told as an entry; behind the last one the file ends
abbrev pub entry_of : List ℕ → Walked Found → Result Entry Refusal
entry_of bytes (came (a_setting s left settings) next) = Ok (SettingHere s.sf s.low (record { at = next; section = 1; left = left; settings = settings }))
entry_of bytes (came (a_frame f left settings) next) =
    Ok (FrameHere f.setting f.cr f.flag f.repairs (next - length f.payload) (record { at = next; section = 2; left = left; settings = settings }))
entry_of bytes (came (a_refused r left settings) next) = Ok (RefusedHere r.setting r.number r.place (record { at = next; section = 3; left = left; settings = settings }))
entry_of bytes (came the_end next) = cond (eqb next (length bytes)) (Ok End) (refuse 15 next)
entry_of bytes (stop number place) = refuse number place

-- from a place on, by its section: 0 before the first byte, 1 settings, 2 frames, else refused frames
abbrev pub from : Kind → List ℕ → Place → Script Found
from k bytes p =
    cond (eqb p.section 0) (at_start k (settings_before bytes (p.at + 2)))
    (cond (eqb p.section 1) (in_settings k (settings_before bytes p.at) p.settings p.left)
    (cond (eqb p.section 2) (in_frames k p.settings p.left)
    (in_refused p.settings p.left)))

-- the entry that stands at a place
unfoldable pub shown : Kind → List ℕ → Place → Result Entry Refusal
shown k bytes p = entry_of bytes (walk (from k bytes p) bytes p.at)

-- its payload: that part of the file
abbrev pub payload_of : Result Entry Refusal → List ℕ → List ℕ
payload_of (Ok (FrameHere _ _ _ _ start next)) bytes = take (next.at - start) (drop start bytes)
payload_of (Ok (SettingHere _ _ _)) bytes = []
payload_of (Ok (RefusedHere _ _ _ _)) bytes = []
payload_of (Ok End) bytes = []
payload_of (Err e) bytes = []

-- the place behind it; a walker stays at the end, and where it is refused
abbrev pub behind : Result Entry Refusal → Place → Place
behind (Ok (SettingHere _ _ next)) p = next
behind (Ok (FrameHere _ _ _ _ _ next)) p = next
behind (Ok (RefusedHere _ _ _ next)) p = next
behind (Ok End) p = p
behind (Err e) p = p

-- where a walk starts
abbrev pub begin : Place
begin = record { at = 0; section = 0; left = 0; settings = 0 }
