-- What is shown of a file entry by entry is the listing of its judgement.
-- Assumes nothing.
use mathlib.Core.Path.{◌≡◌, refl, sym, ap, ◌∙◌}
use mathlib.Core.List.{List, [], ◌∷◌, ◌++◌, map, flat_map, append_assoc, append-nil}
use Prim.Native.Nat.{ℕ, zero, suc}
use native.Mathlib.Numerals.{add-one}
use lib.ListN.{length}
use Rattle.day.specs.Script.{taken, refused}
use Rattle.std.specs.Prelude.{Result, Ok, Err}
use Rattle.refusal.specs.declared.Refusal.{Refusal}
use Rattle.day.specs.Day.{Setting, Frame, RefusedFrame, Day, kind1, judged}
use Rattle.day.specs.Walk.{shown, payload_of, behind, begin}
use Rattle.day.specs.declared.Place.{Place}
use Rattle.day.specs.declared.Entry.{Entry}
use Rattle.day.specs.declared.Entry.TheVariants.{Setting as SettingHere, Frame as FrameHere, Refused as RefusedHere, End}
use Rattle.show.specs.Show.{setting_line, end_line, no_line, setting_lines, line_of_frame, line_of_refused, listing, shown_file, entry_line}
use Rattle.showing.specs.Along.{line_at, lines_along}
use Rattle.day_promises.specs.Told.{Told, a_setting, a_frame, a_refused, told, numbered, told_in, entries_in, how_many}
use Rattle.day_promises.proofs.Walk.{shows-all}

-- the line of an entry that was told
abbrev line_of : Told → List ℕ
line_of (a_setting index s) = setting_line index s.sf s.low
line_of (a_frame f) = line_of_frame f
line_of (a_refused r) = line_of_refused r

entry-line : (e : Result Entry Refusal) (payload : List ℕ) → entry_line e payload ≡ flat_map line_of (told e payload)
unfolding entry_line flat_map
entry-line (Ok (SettingHere sf low next)) payload = sym (append-nil _)
entry-line (Ok (FrameHere setting cr flag repairs start next)) payload = sym (append-nil _)
entry-line (Ok (RefusedHere setting number place next)) payload = sym (append-nil _)
entry-line (Ok End) payload = refl
entry-line (Err e) payload = refl

flat_map-append : (l m : List Told) → flat_map line_of (l ++ m) ≡ flat_map line_of l ++ flat_map line_of m
unfolding flat_map
flat_map-append [] m = refl
flat_map-append (x ∷ l) m = ap (line_of x ++◌) (flat_map-append l m) ∙ sym (append_assoc (line_of x) (flat_map line_of l) (flat_map line_of m))

along : (n : ℕ) (bytes : List ℕ) (p : Place) → lines_along n bytes p ≡ flat_map line_of (told_in kind1 bytes n p)
unfolding lines_along line_at told_in flat_map
along zero bytes p = refl
along (suc n) bytes p =
    let e = shown kind1 bytes p in
    rw (entry-line e (payload_of e bytes), along n bytes (behind e p)) (sym (flat_map-append (told e (payload_of e bytes)) (told_in kind1 bytes n (behind e p))))

numbered-lines : (j : ℕ) (l : List Setting) → flat_map line_of (numbered j l) ≡ setting_lines j l
unfolding flat_map numbered setting_lines
numbered-lines j [] = refl
numbered-lines j (s ∷ l) = rw (numbered-lines (suc j) l, add-one j)

frame-lines : (l : List Frame) → flat_map line_of (map a_frame l) ≡ flat_map line_of_frame l
unfolding flat_map
frame-lines [] = refl
frame-lines (f ∷ l) = ap (line_of_frame f ++◌) (frame-lines l)

refused-lines : (l : List RefusedFrame) → flat_map line_of (map a_refused l) ≡ flat_map line_of_refused l
unfolding flat_map
refused-lines [] = refl
refused-lines (r ∷ l) = ap (line_of_refused r ++◌) (refused-lines l)

-- Of a file that is taken, the lines of its entries as the walker comes upon them, and the last line, are all that is shown.
pub shown-whole : (bytes : List ℕ) (e : Day) → judged kind1 bytes ≡ taken e
    → lines_along (how_many e) bytes begin ++ end_line (length e.frames) (length e.refused) ≡ shown_file bytes
unfolding shown_file listing entries_in
shown-whole bytes e t =
    let lines : lines_along (how_many e) bytes begin ≡ setting_lines 0 e.settings ++ (flat_map line_of_frame e.frames ++ flat_map line_of_refused e.refused) =
    along (how_many e) bytes begin ∙ ap (flat_map line_of) (shows-all kind1 bytes e t).0
    ∙ flat_map-append (numbered 0 e.settings) (map a_frame e.frames ++ map a_refused e.refused)
    ∙ rw (flat_map-append (map a_frame e.frames) (map a_refused e.refused), numbered-lines 0 e.settings, frame-lines e.frames, refused-lines e.refused) in
    rw (t, lines) (append_assoc (setting_lines 0 e.settings) _ _ ∙ ap (setting_lines 0 e.settings ++◌) (append_assoc (flat_map line_of_frame e.frames) _ _))

-- Of one that is refused, the one line.
pub shown-refused : (bytes : List ℕ) (number place : ℕ) → judged kind1 bytes ≡ refused number place → shown_file bytes ≡ no_line number place
unfolding shown_file listing
shown-refused bytes number place t = rw t
