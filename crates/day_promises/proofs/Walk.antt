-- The walker shows exactly the entries of the judgement.
-- Assumes nothing.
use mathlib.Core.Path.{◌≡◌, refl, sym, ap, ◌∙◌}
use mathlib.Core.Bool.{Bool, true, false}
use mathlib.Core.List.{List, [], ◌∷◌, ◌++◌, map}
use Prim.Native.Nat.{ℕ, suc}
use native.Mathlib.Omega.{arith}
use borrow.Author.Tests.{eqb-true}
use lib.Dec.{eqb}
use lib.ListN.{length, length-append, length-map}
use Rattle.std.specs.Prelude.{Result, Ok, Err}
use Rattle.refusal.specs.declared.Refusal.{Refusal}
use Rattle.bits.specs.Check.{check}
use Rattle.bits.specs.Tab.{tab}
use Rattle.day.specs.Script.{Script, ◌>>=◌, Walked, came, stop, walk, taken, refused, whole}
use Rattle.day.specs.Day.{Setting, Frame, RefusedFrame, Day, Kind, count, put_count, setting, frame, refused_frame, section, day, judged}
use Rattle.day.specs.Stages.{settings_before}
use Rattle.day.specs.Walk.{Found, in_refused, in_frames, in_settings, at_start, entry_of, shown, behind, begin}
use Rattle.day.specs.declared.Place.{Place}
use Rattle.day.specs.declared.Entry.{Entry}
use Rattle.day.specs.declared.Entry.TheVariants.{Setting as SettingHere, Frame as FrameHere, Refused as RefusedHere, End}
use Rattle.day.proofs.ScriptLaws.{bind-on, bind-only, done-only, one_only, many-only}
use Rattle.day.proofs.DayLaws.{setting-lawful, count-spells}
use Rattle.day_promises.specs.Told.{Told, a_frame, a_refused, told, numbered, told_in, place_after, entries_in, how_many}
use Rattle.day_promises.proofs.Steps.{next_of, Tells, SettingsTold, tells-refused, tells-frames, tells-settings}

module _ (k : Kind) (bytes : List ℕ) where
  -- section by section
  refused-part : (settings at : ℕ) (all : List RefusedFrame) (next : ℕ) → walk (section (refused_frame settings) k.wide k.most) bytes at ≡ came all next → next ≡ length bytes
      → Tells k bytes (entry_of bytes (walk (in_frames k settings 0) bytes at)) (map a_refused all)
  unfolding section in_frames
  refused-part settings at all next e end = bind-only _ _ bytes at all next e λ n mid p q. shut n mid p (tells-refused k bytes n settings [] all mid next q end)
    where
      shut : (n mid : ℕ) → walk (count k.wide k.most) bytes at ≡ came n mid
          → (l : List RefusedFrame) × (all ≡ l) × Tells k bytes (entry_of bytes (walk (in_refused settings n) bytes mid)) (map a_refused l)
          → Tells k bytes (entry_of bytes (walk (count k.wide k.most >>= in_refused settings) bytes at)) (map a_refused all)
      shut n mid p (l, is, tells) = rw (bind-on _ _ bytes at p refl, is) tells

  frames-part : (earlier : List Setting) (settings at : ℕ) (all : List Frame) (next : ℕ) (more : List Told) → walk (section (frame settings) k.wide k.most) bytes at ≡ came all next
      → Tells k bytes (entry_of bytes (walk (in_frames k settings 0) bytes next)) more
      → Tells k bytes (entry_of bytes (walk (in_settings k earlier settings 0) bytes at)) (map a_frame all ++ more)
  unfolding section in_settings
  frames-part earlier settings at all next more e later = bind-only _ _ bytes at all next e λ n mid p q. shut n mid p (tells-frames k bytes n settings [] all mid next more q later)
    where
      shut : (n mid : ℕ) → walk (count k.wide k.most) bytes at ≡ came n mid
          → (l : List Frame) × (all ≡ l) × Tells k bytes (entry_of bytes (walk (in_frames k settings n) bytes mid)) (map a_frame l ++ more)
          → Tells k bytes (entry_of bytes (walk (count k.wide k.most >>= in_frames k settings) bytes at)) (map a_frame all ++ more)
      shut n mid p (l, is, tells) = rw (bind-on _ _ bytes at p refl, is) tells

  abbrev from_settings : Script Found
  from_settings = count false 255 >>= λ n. in_settings k (settings_before bytes 2) n n

  settings-part : (all : List Setting) (next : ℕ) (more : List Told) → walk (section setting false 255) bytes 1 ≡ came all next
      → Tells k bytes (entry_of bytes (walk (in_settings k (settings_before bytes next) (length all) 0) bytes next)) more
      → Tells k bytes (entry_of bytes (walk from_settings bytes 1)) (numbered 0 all ++ more)
  unfolding section put_count tab
  settings-part all next more e later = bind-only _ _ bytes 1 all next e λ n mid p q.
      many-only setting setting-lawful n [] bytes mid all next q λ l is long goods stands.
      let two : mid ≡ 2 = ((count-spells false 255 (omega arith)).only bytes 1 n mid p).1.long in
      let many : length all ≡ n = ap length is ∙ long in
      shut n mid p two (tells-settings k bytes n n 0 all next more (omega arith) (rw two at q) (rw many at later))
    where
      shut : (n mid : ℕ) → walk (count false 255) bytes 1 ≡ came n mid → mid ≡ 2 → SettingsTold k bytes n n 0 all more → Tells k bytes (entry_of bytes (walk from_settings bytes 1)) (numbered 0 all ++ more)
      shut n mid p two (l, is, tells) = rw (bind-on _ _ bytes 1 p refl, two, is) tells

  -- from the file's start
  start-part : (e : Day) (n : ℕ) → walk (day k) bytes 0 ≡ came e n → n ≡ length bytes → Tells k bytes (shown k bytes begin) (entries_in e)
  unfolding day shown at_start entries_in
  start-part e n w end =
      bind-only _ _ bytes 0 e n w λ mark m1 w1 e1.
      bind-only _ _ bytes m1 e n e1 λ ss m2 w2 e2.
      bind-only _ _ bytes m2 e n e2 λ fs m3 w3 e3.
      bind-only _ _ bytes m3 e n e3 λ rs m4 w4 e4.
      let (is, z) = done-only _ e bytes m4 n e4 in
      let first : m1 ≡ 1 = (one_only _ bytes 0 mark m1 w1).1.long in
      let told3 = refused-part (length ss) m3 rs m4 w4 (sym z ∙ end) in
      let told2 = frames-part (settings_before bytes m2) (length ss) m2 fs m3 (map a_refused rs) w3 told3 in
      rw (bind-on _ _ bytes 0 w1 refl, first, is) (settings-part ss m2 (map a_frame fs ++ map a_refused rs) (rw first at w2) told2)

  -- step by step
  behind-next : (e : Result Entry Refusal) (p : Place) (payload : List ℕ) (x : Told) → told e payload ≡ x ∷ [] → behind e p ≡ next_of e
  behind-next (Ok (SettingHere sf low next)) p payload x q = refl
  behind-next (Ok (FrameHere setting cr flag repairs start next)) p payload x q = refl
  behind-next (Ok (RefusedHere setting number place next)) p payload x q = refl
  behind-next (Ok End) p payload x q = absurd (let z : ◌≡◌ {A = ℕ} 0 1 = ap length q in omega arith)
  behind-next (Err e) p payload x q = absurd (let z : ◌≡◌ {A = ℕ} 0 1 = ap length q in omega arith)

  steps : (items : List Told) (p : Place) → Tells k bytes (shown k bytes p) items
      → (told_in k bytes (length items) p ≡ items) × (shown k bytes (place_after k bytes (length items) p) ≡ Ok End)
  unfolding Tells told_in place_after
  steps [] p e = (refl, e)
  steps (x ∷ more) p (here, later) =
      let next : behind (shown k bytes p) p ≡ next_of (shown k bytes p) = behind-next (shown k bytes p) p _ x here in
      let (Told-more, ends) = steps more (behind (shown k bytes p) p) (rw next later) in
      (rw (here, Told-more), ends)

  so-many : (j : ℕ) (l : List Setting) → length (numbered j l) ≡ length l
  unfolding numbered
  so-many j [] = refl
  so-many j (s ∷ l) = ap suc (so-many (suc j) l)

  how-many : (e : Day) → length (entries_in e) ≡ how_many e
  unfolding entries_in
  how-many e = simp (length-append, length-map, so-many) refl

  -- Of a file that is taken the walker shows all entries, in their order, each payload being the cells of the file at that place;
  -- and then the end.
  pub shows-all : (e : Day) → judged k bytes ≡ taken e → (told_in k bytes (how_many e) begin ≡ entries_in e) × (shown k bytes (place_after k bytes (how_many e) begin) ≡ Ok End)
  unfolding judged
  shows-all e q = go (walk (day k) bytes 0) refl q
    where
      go : (w : Walked Day) → walk (day k) bytes 0 ≡ w → whole bytes w ≡ taken e
          → (told_in k bytes (how_many e) begin ≡ entries_in e) × (shown k bytes (place_after k bytes (how_many e) begin) ≡ Ok End)
      go (came a n) p t = at-end (eqb n (length bytes)) refl t
        where
          at-end : (b : Bool) → eqb n (length bytes) ≡ b → check b (refused 15 n) (taken a) ≡ taken e
              → (told_in k bytes (how_many e) begin ≡ entries_in e) × (shown k bytes (place_after k bytes (how_many e) begin) ≡ Ok End)
          at-end true r u =
              let v : a ≡ e = cc in
              rw (← how-many e) (steps (entries_in e) begin (rw (← v) (start-part a n p (eqb-true n (length bytes) r))))
          at-end false r u = absurd (let z : ◌≡◌ {A = ℕ} 0 1 = cc in omega arith)
      go (stop x y) p t = absurd (let z : ◌≡◌ {A = ℕ} 0 1 = cc in omega arith)
