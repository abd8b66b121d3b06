-- Where a payload lies that was read, or that a walker shows.
-- Assumes nothing.
use mathlib.Core.Path.{◌≡◌, refl, ap}
use mathlib.Core.Bool.{Bool, true, false, ◌&&◌, cond}
use mathlib.Core.List.{List, [], ◌∷◌, ◌++◌}
use Prim.Native.Nat.{ℕ, zero, suc, ◌+◌, ◌-◌, ◌<◌, ◌≤◌}
use native.Mathlib.Omega.{arith}
use borrow.Author.Tests.{ltb-true}
use lib.Dec.{leb, ltb, eqb}
use lib.ListN.{length, take, drop, length-append, length-drop}
use lib.Seq.{take_at}
use Rattle.std.specs.Prelude.{Ok}
use Rattle.refusal.specs.Refusal.{refuse}
use Rattle.day.specs.Script.{Script, Walked, came, stop, walk, put_each, good_each}
use Rattle.day.specs.Day.{Setting, Frame, Kind, within, is_byte, is_flag, is_cr, frame, any_byte, low_first}
use Rattle.day.specs.Stages.{settings_before}
use Rattle.day.specs.Walk.{Found, a_setting, a_frame, a_refused, the_end, in_refused, in_frames, in_settings, at_start, entry_of, from, shown, payload_of}
use Rattle.day.specs.declared.Place.{Place}
use Rattle.day.specs.declared.Entry.TheVariants.{Frame as FrameHere, End}
use Rattle.day.proofs.ScriptLaws.{both_true, Stands, stands-split, bind-only, done-only}
use Rattle.day.proofs.DayLaws.{frame-lawful}

-- what stands in a file ends within it
pub stands-within : (l bytes : List ℕ) (at next : ℕ) → 0 < length l → Stands l bytes at next → next ≤ length bytes
stands-within l bytes at next h p = omega (arith, p.long, simp (length-append, length-drop) at (ap length p.is))

frame-long : (n : ℕ) (f : Frame) → 0 < length ((frame n).put f)
unfolding frame
frame-long n f = omega arith

put-bytes : (l : List ℕ) → put_each any_byte.put l ≡ l
unfolding put_each any_byte
put-bytes [] = refl
put-bytes (b ∷ l) = ap (b ∷◌) (put-bytes l)

-- a frame's bytes before its payload
frame_head : Frame → List ℕ
frame_head f = f.setting ∷ f.cr ∷ f.flag ∷ (low_first f.repairs ++ (length f.payload ∷ []))

put-frame : (n : ℕ) (f : Frame) → (frame n).put f ≡ frame_head f ++ f.payload
unfolding frame frame_head low_first
put-frame n f = rw (put-bytes f.payload)

-- the payload of a frame that was read is that part of the file
pub frame-part : (bytes : List ℕ) (n at : ℕ) (f : Frame) (next : ℕ) → walk ((frame n).read []) bytes at ≡ came f next
    → take (next - (next - length f.payload)) (drop (next - length f.payload) bytes) ≡ f.payload
frame-part bytes n at f next p =
    let (head, body) = stands-split bytes (frame_head f) f.payload at next (rw put-frame at ((frame-lawful n []).only bytes at f next p).1) in
    let start : next - length f.payload ≡ at + length (frame_head f) = omega (arith, body.long) in
    let long : next - (at + length (frame_head f)) ≡ length f.payload = omega (arith, body.long) in
    rw (start, long, body.is) (take_at f.payload _ (length f.payload) refl)

-- A frame that a walker comes upon was read as a frame.
module _ (bytes : List ℕ) (f : Frame) (left n next : ℕ) where
  abbrev Found-as : Script Found → ℕ → Type 0
  Found-as s at = walk s bytes at ≡ came (a_frame f left n) next → (m : ℕ) × (walk ((frame n).read []) bytes m ≡ came f next)

  in-refused : (settings k at : ℕ) → Found-as (in_refused settings k) at
  unfolding in_refused
  in-refused settings zero at e = absurd (let q = (done-only _ _ bytes at next e).0 in let z : ◌≡◌ {A = ℕ} 0 1 = cc in omega arith)
  in-refused settings (suc k) at e = bind-only _ _ bytes at _ next e λ r mid p q.
      absurd (let t = (done-only _ _ bytes mid next q).0 in let z : ◌≡◌ {A = ℕ} 0 1 = cc in omega arith)

  in-frames : (k : Kind) (settings m at : ℕ) → Found-as (in_frames k settings m) at
  unfolding in_frames
  in-frames k settings zero at e = bind-only _ _ bytes at _ next e λ count mid p q. in-refused settings count mid q
  in-frames k settings (suc m) at e = bind-only _ _ bytes at _ next e λ g mid p q.
      let (t, z) = done-only _ _ bytes mid next q in
      let same : f ≡ g = cc in
      let files : n ≡ settings = cc in
      (at, rw (files, same, z) p)

  in-settings : (k : Kind) (earlier : List Setting) (settings m at : ℕ) → Found-as (in_settings k earlier settings m) at
  unfolding in_settings
  in-settings k earlier settings zero at e = bind-only _ _ bytes at _ next e λ count mid p q. in-frames k settings count mid q
  in-settings k earlier settings (suc m) at e = bind-only _ _ bytes at _ next e λ s mid p q.
      absurd (let t = (done-only _ _ bytes mid next q).0 in let z : ◌≡◌ {A = ℕ} 0 1 = cc in omega arith)

  at-start : (k : Kind) (earlier : List Setting) (at : ℕ) → Found-as (at_start k earlier) at
  unfolding at_start
  at-start k earlier at e = bind-only _ _ bytes at _ next e λ mark m1 p1 e1. bind-only _ _ bytes m1 _ next e1 λ count m2 p2 e2. in-settings k earlier count count m2 e2

  anywhere : (k : Kind) (p : Place) (at : ℕ) → Found-as (from k bytes p) at
  anywhere k p at = go (eqb p.section 0) (eqb p.section 1) (eqb p.section 2)
    where
      go : (a b c : Bool)
          → Found-as (cond a (at_start k (settings_before bytes (p.at + 2))) (cond b (in_settings k (settings_before bytes p.at) p.settings p.left) (cond c (in_frames k p.settings p.left) (in_refused p.settings p.left)))) at
      go true b c = at-start k _ at
      go false true c = in-settings k _ p.settings p.left at
      go false false true = in-frames k p.settings p.left at
      go false false false = in-refused p.settings p.left at

-- A payload that is shown lies in the file.
pub shown-lies : (k : Kind) (bytes : List ℕ) (p q : Place) (a b c d start : ℕ) → shown k bytes p ≡ Ok (FrameHere a b c d start q) → (start ≤ q.at) × (q.at ≤ length bytes)
unfolding shown
shown-lies k bytes p q a b c d start e = go (walk (from k bytes p) bytes p.at) refl e
  where
    ends : (at : ℕ) (t : Bool) → cond t (Ok End) (refuse 15 at) ≡ Ok (FrameHere a b c d start q) → (start ≤ q.at) × (q.at ≤ length bytes)
    ends at true r = absurd (let z : ◌≡◌ {A = ℕ} 0 1 = cc in omega arith)
    ends at false r = absurd (let z : ◌≡◌ {A = ℕ} 0 1 = cc in omega arith)

    go : (w : Walked Found) → walk (from k bytes p) bytes p.at ≡ w → entry_of bytes w ≡ Ok (FrameHere a b c d start q) → (start ≤ q.at) × (q.at ≤ length bytes)
    go (came (a_setting s l n) next) w r = absurd (let z : ◌≡◌ {A = ℕ} 0 1 = cc in omega arith)
    go (came (a_frame f l n) next) w r =
        let (at, v) = anywhere bytes f l n next k p p.at w in
        let s : next - length f.payload ≡ start = cc in
        let t : (record { at = next; section = 2; left = l; settings = n }) ≡ q = cc in
        let u : next ≡ q.at = ap (λ (x : Place). x.at) t in
        let within : next ≤ length bytes = stands-within ((frame n).put f) bytes at next (frame-long n f) ((frame-lawful n []).only bytes at f next v).1 in
        (omega arith, omega arith)
    go (came (a_refused x l n) next) w r = absurd (let z : ◌≡◌ {A = ℕ} 0 1 = cc in omega arith)
    go (came the_end next) w r = ends next (eqb next (length bytes)) r
    go (stop x y) w r = absurd (let z : ◌≡◌ {A = ℕ} 0 1 = cc in omega arith)

fifth : (a b c d e z : Bool) → a && (b && (c && (d && (e && z)))) ≡ true → e ≡ true
fifth a b c d e z h =
    let h1 = (both_true a (b && (c && (d && (e && z)))) h).1 in
    let h2 = (both_true b (c && (d && (e && z))) h1).1 in
    let h3 = (both_true c (d && (e && z)) h2).1 in
    (both_true e z (both_true d (e && z) h3).1).0

frame-short : (n : ℕ) (f : Frame) → (frame n).good [] f ≡ true → length f.payload ≤ 255
unfolding frame
frame-short n f g =
    let long = length f.payload in
    let byte = fifth (within 0 n f.setting) (is_cr f.cr) (is_flag f.flag) (leb f.repairs 65535) (is_byte long) (good_each any_byte.good [] f.payload) g in
    omega (arith, ltb-true long 256 (both_true (leb 0 long) (ltb long 256) byte).1)

-- It has at most 255 bytes.
pub shown-short : (k : Kind) (bytes : List ℕ) (p : Place) → length (payload_of (shown k bytes p) bytes) ≤ 255
unfolding shown
shown-short k bytes p = go (walk (from k bytes p) bytes p.at) refl
  where
    ends : (at : ℕ) (t : Bool) → length (payload_of (cond t (Ok End) (refuse 15 at)) bytes) ≤ 255
    ends at true = omega arith
    ends at false = omega arith

    go : (w : Walked Found) → walk (from k bytes p) bytes p.at ≡ w → length (payload_of (entry_of bytes w) bytes) ≤ 255
    go (came (a_setting s l n) next) w = omega arith
    go (came (a_frame f l n) next) w =
        let (at, v) = anywhere bytes f l n next k p p.at w in
        rw (frame-part bytes n at f next v) (frame-short n f ((frame-lawful n []).only bytes at f next v).0)
    go (came (a_refused x l n) next) w = omega arith
    go (came the_end next) w = ends next (eqb next (length bytes))
    go (stop x y) w = omega arith
