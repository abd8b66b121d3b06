-- One step of a walker, from each section.
-- Assumes nothing.
use mathlib.Core.Path.{◌≡◌, refl, sym, ap, ◌∙◌}
use mathlib.Core.Bool.{false}
use mathlib.Core.List.{List, []}
use Prim.Native.Nat.{ℕ, suc, ◌+◌, ◌-◌}
use native.Mathlib.Omega.{arith}
use borrow.Author.Tests.{eq-eqb, ne_eqb}
use lib.ListN.{length}
use Rattle.std.specs.Prelude.{Result, Ok, Err}
use Rattle.refusal.specs.Refusal.{refuse}
use Rattle.refusal.specs.declared.Refusal.{Refusal}
use Rattle.day.specs.Script.{one, came, stop, walk}
use Rattle.day.specs.Day.{Setting, kind1, within, count, setting, frame, refused_frame}
use Rattle.day.specs.Stages.{frame_seen, setting_seen, refused_seen, settings_before}
use Rattle.day.specs.Walk.{in_refused, in_frames, in_settings, at_start, entry_of, shown}
use Rattle.day.specs.declared.Place.{Place}
use Rattle.day.specs.declared.Entry.{Entry}
use Rattle.day.specs.declared.Entry.TheVariants.{Setting as SettingHere, Frame as FrameHere, Refused as RefusedHere, End}
use Rattle.day.specs.declared.entries.FrameAt.{FrameAt}
use Rattle.day.specs.declared.entries.RefusedAt.{RefusedAt}
use Rattle.day.specs.declared.entries.SettingAt.{SettingAt}
use Rattle.day.proofs.ScriptLaws.{bind-on, bind-stop, done-back}
use Rattle.day.proofs.SeenLaws.{told-came, told-stop}
use Rattle.day.proofs.CheckLaws.{mark-reads}

-- behind the last refused frame, however many settings there are
pub at-end : (bytes : List ℕ) (at : ℕ) → at ≡ length bytes → Ok End ≡ entry_of bytes (walk (in_refused 0 0) bytes at)
unfolding in_refused walk
at-end bytes at h = rw (eq-eqb at (length bytes) h) refl

pub left_over : (bytes : List ℕ) (at : ℕ) → (at ≡ length bytes → ⊥) → refuse 15 at ≡ entry_of bytes (walk (in_refused 0 0) bytes at)
unfolding in_refused walk
left_over bytes at h = rw (ne_eqb at (length bytes) h) refl

pub some : (left : ℕ) → (left ≡ 0 → ⊥) → left ≡ suc (left - 1)
some left h = omega arith

module _ (bytes : List ℕ) (at settings : ℕ) (left : ℕ) where
  -- among the refused frames
  pub none-refused : (r : Result Entry Refusal) → left ≡ 0 → r ≡ entry_of bytes (walk (in_refused 0 0) bytes at) → r ≡ entry_of bytes (walk (in_refused settings left) bytes at)
  unfolding in_refused
  none-refused r z e = rw z e

  pub refused-here : (b : RefusedAt) (n : ℕ) → left ≡ suc n → Ok b ≡ refused_seen (walk ((refused_frame settings).read []) bytes at)
      → Ok (RefusedHere b.setting b.number b.place (record { at = b.end; section = 3; left = n; settings = settings })) ≡ entry_of bytes (walk (in_refused settings left) bytes at)
  unfolding in_refused refused_seen
  refused-here b n h e = told-came _ (walk ((refused_frame settings).read []) bytes at) b e λ r m is from.
      rw (h, from) (sym (ap (entry_of bytes) (bind-on _ _ bytes at is (done-back _ bytes m))))

  pub no-refused : (d : Refusal) → (left ≡ 0 → ⊥) → Err d ≡ refused_seen (walk ((refused_frame settings).read []) bytes at) → Err d ≡ entry_of bytes (walk (in_refused settings left) bytes at)
  unfolding in_refused refused_seen
  no-refused d h e = rw (some left h, bind-stop _ _ bytes at (told-stop _ _ d e)) refl

  -- among the frames
  pub behind-frames : (r : Result Entry Refusal) (n : ℕ) → left ≡ 0 → walk (count false 255) bytes at ≡ came n (at + 1) → r ≡ entry_of bytes (walk (in_refused settings n) bytes (at + 1))
      → r ≡ entry_of bytes (walk (in_frames kind1 settings left) bytes at)
  unfolding in_frames
  behind-frames r n z w e = e ∙ rw (z, bind-on _ _ bytes at w refl) refl

  pub no-refused-count : (d : Refusal) → left ≡ 0 → walk (count false 255) bytes at ≡ stop d.number d.place → Err d ≡ entry_of bytes (walk (in_frames kind1 settings left) bytes at)
  unfolding in_frames
  no-refused-count d z w = rw (z, bind-stop _ _ bytes at w) refl

  pub frame_here : (b : FrameAt) (n : ℕ) → left ≡ suc n → Ok b ≡ frame_seen (walk ((frame settings).read []) bytes at)
      → Ok (FrameHere b.setting b.cr b.flag b.repairs b.start (record { at = b.end; section = 2; left = n; settings = settings })) ≡ entry_of bytes (walk (in_frames kind1 settings left) bytes at)
  unfolding in_frames frame_seen
  frame_here b n h e = told-came _ (walk ((frame settings).read []) bytes at) b e λ f m is from.
      rw (h, from) (sym (ap (entry_of bytes) (bind-on _ _ bytes at is (done-back _ bytes m))))

  pub no-frame : (d : Refusal) → (left ≡ 0 → ⊥) → Err d ≡ frame_seen (walk ((frame settings).read []) bytes at) → Err d ≡ entry_of bytes (walk (in_frames kind1 settings left) bytes at)
  unfolding in_frames frame_seen
  no-frame d h e = rw (some left h, bind-stop _ _ bytes at (told-stop _ _ d e)) refl

  -- among the settings
  module _ (earlier : List Setting) where
    pub behind-settings : (r : Result Entry Refusal) (n : ℕ) → left ≡ 0 → walk (count false 255) bytes at ≡ came n (at + 1) → r ≡ entry_of bytes (walk (in_frames kind1 settings n) bytes (at + 1))
        → r ≡ entry_of bytes (walk (in_settings kind1 earlier settings left) bytes at)
    unfolding in_settings
    behind-settings r n z w e = e ∙ rw (z, bind-on _ _ bytes at w refl) refl

    pub no-frames-count : (d : Refusal) → left ≡ 0 → walk (count false 255) bytes at ≡ stop d.number d.place → Err d ≡ entry_of bytes (walk (in_settings kind1 earlier settings left) bytes at)
    unfolding in_settings
    no-frames-count d z w = rw (z, bind-stop _ _ bytes at w) refl

    pub setting-here : (b : SettingAt) (n : ℕ) → left ≡ suc n → Ok b ≡ setting_seen (walk (setting.read earlier) bytes at)
        → Ok (SettingHere b.sf b.low (record { at = b.end; section = 1; left = n; settings = settings })) ≡ entry_of bytes (walk (in_settings kind1 earlier settings left) bytes at)
    unfolding in_settings setting_seen
    setting-here b n h e = told-came _ (walk (setting.read earlier) bytes at) b e λ s m is from.
        rw (h, from) (sym (ap (entry_of bytes) (bind-on _ _ bytes at is (done-back _ bytes m))))

    pub no-setting : (d : Refusal) → (left ≡ 0 → ⊥) → Err d ≡ setting_seen (walk (setting.read earlier) bytes at) → Err d ≡ entry_of bytes (walk (in_settings kind1 earlier settings left) bytes at)
    unfolding in_settings setting_seen
    no-setting d h e = rw (some left h, bind-stop _ _ bytes at (told-stop _ _ d e)) refl

-- before the first byte
module _ (bytes : List ℕ) (at : ℕ) where
  abbrev earlier : List Setting
  earlier = settings_before bytes (at + 2)

  pub no-mark : (d : Refusal) → walk (one (within 1 2)) bytes at ≡ stop d.number d.place → Err d ≡ entry_of bytes (walk (at_start kind1 earlier) bytes at)
  unfolding at_start
  no-mark d w = rw (bind-stop _ _ bytes at (mark-reads bytes at ∙ w)) refl

  module _ {mark : ℕ} (w0 : walk (one (within 1 2)) bytes at ≡ came mark (at + 1)) where
    pub no-settings-count : (d : Refusal) → walk (count false 255) bytes (at + 1) ≡ stop d.number d.place → Err d ≡ entry_of bytes (walk (at_start kind1 earlier) bytes at)
    unfolding at_start
    no-settings-count d w = rw (bind-on _ _ bytes at (mark-reads bytes at ∙ w0) (bind-stop _ _ bytes (at + 1) w)) refl

    pub marked-here : (r : Result Entry Refusal) (n : ℕ) → walk (count false 255) bytes (at + 1) ≡ came n (at + 1 + 1)
        → r ≡ entry_of bytes (walk (in_settings kind1 earlier n n) bytes (at + 2)) → r ≡ entry_of bytes (walk (at_start kind1 earlier) bytes at)
    unfolding at_start
    marked-here r n w e =
        let behind : walk (count false 255) bytes (at + 1) ≡ came n (at + 2) = w ∙ ap (came n) (omega arith) in
        e ∙ rw (bind-on _ _ bytes at (mark-reads bytes at ∙ w0) (bind-on _ _ bytes (at + 1) behind refl)) refl

-- each section has its step
module _ (bytes : List ℕ) (p : Place) (r : Result Entry Refusal) where
  pub shown-start : p.section ≡ 0 → r ≡ entry_of bytes (walk (at_start kind1 (settings_before bytes (p.at + 2))) bytes p.at) → r ≡ shown kind1 bytes p
  unfolding shown
  shown-start s e = e ∙ rw s refl

  pub shown-settings : p.section ≡ 1 → r ≡ entry_of bytes (walk (in_settings kind1 (settings_before bytes p.at) p.settings p.left) bytes p.at) → r ≡ shown kind1 bytes p
  unfolding shown
  shown-settings s e = e ∙ rw s refl

  pub shown-frames : p.section ≡ 2 → r ≡ entry_of bytes (walk (in_frames kind1 p.settings p.left) bytes p.at) → r ≡ shown kind1 bytes p
  unfolding shown
  shown-frames s e = e ∙ rw s refl

  pub shown-refused : (p.section ≡ 0 → ⊥) → (p.section ≡ 1 → ⊥) → (p.section ≡ 2 → ⊥)
      → r ≡ entry_of bytes (walk (in_refused p.settings p.left) bytes p.at) → r ≡ shown kind1 bytes p
  unfolding shown
  shown-refused a b c e = e ∙ rw (ne_eqb p.section 0 a, ne_eqb p.section 1 b, ne_eqb p.section 2 c) refl
