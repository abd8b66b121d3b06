-- What an entry that was seen says of the walk over it.
-- Assumes nothing.
use mathlib.Core.Path.{◌≡◌, refl, ap}
use Prim.Native.Nat.{ℕ}
use native.Mathlib.Omega.{arith}
use Rattle.std.specs.Prelude.{Ok, Err}
use Rattle.refusal.specs.declared.Refusal.{Refusal}
use Rattle.day.specs.Script.{Walked, came, stop}
use Rattle.day.specs.Day.{Setting, Frame, RefusedFrame}
use Rattle.day.specs.Stages.{told_by, frame_seen, setting_seen, refused_seen, spot}
use Rattle.day.specs.declared.entries.FrameAt.{FrameAt}
use Rattle.day.specs.declared.entries.RefusedAt.{RefusedAt}
use Rattle.day.specs.declared.entries.SettingAt.{SettingAt}

-- what was told came of something, and a refusal of one
module _ {A B : Type 0} (f : A → ℕ → B) where
  pub told-came : (w : Walked A) (b : B) → Ok b ≡ told_by f w → {R : Type 0} → ((a : A) (m : ℕ) → w ≡ came a m → b ≡ f a m → R) → R
  told-came (came a m) b e then = then a m refl cc
  told-came (stop x y) b e then = absurd (let z : ◌≡◌ {A = ℕ} 0 1 = cc in omega arith)

  pub told-stop : (w : Walked A) (e : Refusal) → Err e ≡ told_by f w → w ≡ stop e.number e.place
  told-stop (came a m) e q = absurd (let z : ◌≡◌ {A = ℕ} 0 1 = cc in omega arith)
  told-stop (stop x y) e q =
      let z : record { number = x; place = y } ≡ e = cc in
      ap (λ (d : Refusal). stop d.number d.place) z

pub frame-end : (w : Walked Frame) (b : FrameAt) → Ok b ≡ frame_seen w → Ok b.end ≡ spot w
unfolding frame_seen spot
frame-end w b e = told-came _ w b e λ a m is from. rw (is, from) refl

pub frame-none : (w : Walked Frame) (d : Refusal) → Err d ≡ frame_seen w → Err d ≡ spot w
unfolding frame_seen spot
frame-none w d e = rw (told-stop _ w d e) refl

pub setting-end : (w : Walked Setting) (b : SettingAt) → Ok b ≡ setting_seen w → Ok b.end ≡ spot w
unfolding setting_seen spot
setting-end w b e = told-came _ w b e λ a m is from. rw (is, from) refl

pub setting-none : (w : Walked Setting) (d : Refusal) → Err d ≡ setting_seen w → Err d ≡ spot w
unfolding setting_seen spot
setting-none w d e = rw (told-stop _ w d e) refl

pub refused-end : (w : Walked RefusedFrame) (b : RefusedAt) → Ok b ≡ refused_seen w → Ok b.end ≡ spot w
unfolding refused_seen spot
refused-end w b e = told-came _ w b e λ a m is from. rw (is, from) refl

pub refused-none : (w : Walked RefusedFrame) (d : Refusal) → Err d ≡ refused_seen w → Err d ≡ spot w
unfolding refused_seen spot
refused-none w d e = rw (told-stop _ w d e) refl
