-- A walk through the sections of a file that was read: each step tells the next entry.
-- Assumes nothing.
use mathlib.Core.Path.{◌≡◌, refl, sym, ◌∙◌}
use mathlib.Core.List.{List, [], ◌∷◌, ◌++◌, map, append_assoc, append-nil}
use Prim.Native.Nat.{ℕ, zero, suc, ◌+◌, ◌-◌, ◌*◌}
use native.Mathlib.Numerals.{add-one}
use borrow.Author.Tests.{eq-eqb}
use native.Mathlib.Omega.{arith}
use lib.ListN.{length}
use Rattle.std.specs.Prelude.{Result, Ok, Err}
use Rattle.refusal.specs.declared.Refusal.{Refusal}
use Rattle.bits.specs.Tab.{tab}
use Rattle.day.specs.Script.{many, came, walk}
use Rattle.day.specs.Day.{Setting, Frame, RefusedFrame, Kind, setting, frame, refused_frame}
use Rattle.day.specs.Stages.{pair_at, settings_before}
use Rattle.day.specs.Walk.{in_refused, in_frames, in_settings, entry_of, shown, payload_of}
use Rattle.day.specs.declared.Place.{Place}
use Rattle.day.specs.declared.Entry.{Entry}
use Rattle.day.specs.declared.Entry.TheVariants.{Setting as SettingHere, Frame as FrameHere, Refused as RefusedHere, End}
use Rattle.day.proofs.ScriptLaws.{bind-on, bind-only, done-only, done-back}
use Rattle.day.proofs.DayLaws.{setting-lawful}
use Rattle.day.proofs.SectionLaws.{frame_same, refused-same, stood, earlier, put-setting}
use Rattle.day.proofs.WalkLaws.{frame-part}
use Rattle.day_promises.specs.Told.{Told, a_frame, a_refused, told, numbered}

-- the place behind an entry; of the end and of a refusal any
abbrev pub next_of : Result Entry Refusal → Place
next_of (Ok (SettingHere _ _ next)) = next
next_of (Ok (FrameHere _ _ _ _ _ next)) = next
next_of (Ok (RefusedHere _ _ _ next)) = next
next_of (Ok End) = record { at = 0; section = 0; left = 0; settings = 0 }
next_of (Err e) = record { at = 0; section = 0; left = 0; settings = 0 }

module _ (k : Kind) (bytes : List ℕ) where
  -- from what is shown here on, these entries are told, and then the end
  unfoldable pub Tells : Result Entry Refusal → List Told → Type 0
  Tells e [] = e ≡ Ok End
  Tells e (x ∷ more) = (told e (payload_of e bytes) ≡ x ∷ []) × Tells (shown k bytes (next_of e)) more

  -- refused frames up to the file's end
  pub tells-refused : (n settings : ℕ) (before all : List RefusedFrame) (at next : ℕ) → walk (many (refused_frame settings).read n before) bytes at ≡ came all next → next ≡ length bytes
      → (l : List RefusedFrame) × (all ≡ before ++ l) × Tells (entry_of bytes (walk (in_refused settings n) bytes at)) (map a_refused l)
  unfolding many in_refused Tells shown
  tells-refused zero settings before all at next e end =
      let (p, q) = done-only before all bytes at next e in
      let here : at ≡ length bytes = sym q ∙ end in
      ([], p ∙ sym (append-nil before), rw (done-back _ bytes at, eq-eqb at (length bytes) here))
  tells-refused (suc n) settings before all at next e end =
      bind-only ((refused_frame settings).read before) _ bytes at all next e λ r mid p q.
      let w : walk ((refused_frame settings).read []) bytes at ≡ came r mid = rw (← refused-same settings before) p in
      let (l, is, tells) = tells-refused n settings (before ++ (r ∷ [])) all mid next q end in
      (r ∷ l, is ∙ append_assoc before (r ∷ []) l, rw (bind-on _ _ bytes at w (done-back _ bytes mid)) (refl, tells))

  -- frames, and what follows them
  pub tells-frames : (n settings : ℕ) (before all : List Frame) (at next : ℕ) (more : List Told) → walk (many (frame settings).read n before) bytes at ≡ came all next
      → Tells (entry_of bytes (walk (in_frames k settings 0) bytes next)) more
      → (l : List Frame) × (all ≡ before ++ l) × Tells (entry_of bytes (walk (in_frames k settings n) bytes at)) (map a_frame l ++ more)
  unfolding many in_frames Tells shown
  tells-frames zero settings before all at next more e later =
      let (p, q) = done-only before all bytes at next e in
      ([], p ∙ sym (append-nil before), rw q at later)
  tells-frames (suc n) settings before all at next more e later =
      bind-only ((frame settings).read before) _ bytes at all next e λ f mid p q.
      let w : walk ((frame settings).read []) bytes at ≡ came f mid = rw (← frame_same settings before) p in
      let (l, is, tells) = tells-frames n settings (before ++ (f ∷ [])) all mid next more q later in
      (f ∷ l, is ∙ append_assoc before (f ∷ []) l, rw (bind-on _ _ bytes at w (done-back _ bytes mid), frame-part bytes settings at f mid w) (refl, tells))

  -- settings, and what follows them: so many of the section are left behind the first j
  abbrev pub SettingsTold : ℕ → ℕ → ℕ → List Setting → List Told → Type 0
  SettingsTold settings n j all more =
      (l : List Setting) × (all ≡ tab j (pair_at 2 bytes) ++ l)
      × Tells (entry_of bytes (walk (in_settings k (settings_before bytes (2 + 2 * j)) settings n) bytes (2 + 2 * j))) (numbered j l ++ more)

  pub tells-settings : (n settings j : ℕ) (all : List Setting) (next : ℕ) (more : List Told) → j + n ≡ settings
      → walk (many setting.read n (tab j (pair_at 2 bytes))) bytes (2 + 2 * j) ≡ came all next
      → Tells (entry_of bytes (walk (in_settings k (settings_before bytes next) settings 0) bytes next)) more
      → SettingsTold settings n j all more
  unfolding many in_settings Tells shown tab numbered
  tells-settings zero settings j all next more sum e later =
      let (p, q) = done-only _ all bytes (2 + 2 * j) next e in
      ([], p ∙ sym (append-nil _), rw q at later)
  tells-settings (suc n) settings j all next more sum e later =
      bind-only (setting.read (tab j (pair_at 2 bytes))) _ bytes (2 + 2 * j) all next e λ s mid p q.
      let (is-s, is-mid) = stood bytes j mid s (rw put-setting at ((setting-lawful (tab j (pair_at 2 bytes))).only bytes (2 + 2 * j) s mid p).1) in
      go s mid is-s (is-mid ∙ rw (add-one j)) p q (λ r. tells-settings n settings (suc j) all next more (omega arith) r later)
    where
      go : (s : Setting) (mid : ℕ) → s ≡ pair_at 2 bytes j → mid ≡ 2 + 2 * suc j → walk (setting.read (tab j (pair_at 2 bytes))) bytes (2 + 2 * j) ≡ came s mid
          → walk (many setting.read n (tab j (pair_at 2 bytes) ++ (s ∷ []))) bytes mid ≡ came all next
          → (walk (many setting.read n (tab (suc j) (pair_at 2 bytes))) bytes (2 + 2 * suc j) ≡ came all next
          → SettingsTold settings n (suc j) all more)
          → SettingsTold settings (suc n) j all more
      go s mid is-s z p q again = shut (again (rw (← is-s, ← z) q))
        where
          shut : (SettingsTold settings n (suc j) all more)
              → SettingsTold settings (suc n) j all more
          shut (l, is, tells) =
              let w : walk (setting.read (settings_before bytes (2 + 2 * j))) bytes (2 + 2 * j) ≡ came s mid = rw (earlier bytes j) p in
              let index : settings - 1 - n ≡ j = omega arith in
              (s ∷ l, is ∙ rw (← is-s) (append_assoc (tab j (pair_at 2 bytes)) (s ∷ []) l), rw (bind-on _ _ bytes (2 + 2 * j) w (done-back _ bytes mid), index) (refl, rw z tells))
