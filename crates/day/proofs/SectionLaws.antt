-- A section entry by entry, as a loop reads it, and as a script does.
-- Assumes nothing.
use mathlib.Core.Path.{◌≡◌, refl, sym, ap, ◌∙◌}
use mathlib.Core.Bool.{false}
use mathlib.Core.List.{List, [], ◌∷◌, ◌++◌}
use Prim.Native.Nat.{ℕ, zero, suc, ◌+◌, ◌-◌, ◌*◌, ◌/◌, ◌<◌, ◌≤◌}
use native.Mathlib.Omega.{arith}
use lib.ListN.{length, get_or}
use Rattle.std.specs.Prelude.{Result, Ok, Err, MatchResult}
use Rattle.bits.specs.Tab.{tab}
use Rattle.refusal.specs.declared.Refusal.{Refusal}
use Rattle.day.specs.Script.{Script, many, Walked, came, stop, walk, Form}
use Rattle.day.specs.Day.{Setting, Frame, RefusedFrame, setting, frame, refused_frame, section}
use Rattle.day.specs.Stages.{pair_at, settings_before, Steps, Section, part_of, spot, numbered}
use Rattle.day.specs.declared.sections.Part.{Part}
use Rattle.day.proofs.ScriptLaws.{Stands, stands-split, stands_here, onto, walk-bind, bind-on, bind-stop, Lawful, many-only}
use Rattle.day.proofs.DayLaws.{setting-lawful}

-- so many calls of a step, of which a loop has made some: it goes on, it stops, it has come to its end
module _ (Call : ℕ → Result ℕ Refusal → Type 0) (n start i at : ℕ) (all : (r : Result ℕ Refusal) → Steps Call (n - i) at r → Steps Call n start r) where
  pub steps-more : (next : ℕ) → i < n → Call at (Ok next) → (r : Result ℕ Refusal) → Steps Call (n - (i + 1)) next r → Steps Call n start r
  unfolding Steps
  steps-more next h call r t =
      let s : n - i ≡ suc (n - (i + 1)) = omega arith in
      all r (rw s (Ok next, call, t))

  pub steps-stop : (e : Refusal) → i < n → Call at (Err e) → Steps Call n start (Err e)
  unfolding Steps
  steps-stop e h call =
      let s : n - i ≡ suc (n - (i + 1)) = omega arith in
      all (Err e) (rw s (Err e, call, refl))

  pub steps-end : n ≤ i → Steps Call n start (Ok at)
  unfolding Steps
  steps-end h =
      let s : n - i ≡ 0 = omega arith in
      all (Ok at) (rw s refl)

-- Steps over the entries of a section lead to the place behind them. What an entry is read in the light of is kept from one to the next.
module _ {A : Type 0} (read : List A → Script A) (bytes : List ℕ) (Known : List A → ℕ → Type 0)
    (keeps : (before : List A) (at : ℕ) (a : A) (m : ℕ) → Known before at → walk (read before) bytes at ≡ came a m → Known (before ++ (a ∷ [])) m)
    (Call : ℕ → Result ℕ Refusal → Type 0)
    (calls : (before : List A) (at : ℕ) (r : Result ℕ Refusal) → Known before at → Call at r → r ≡ spot (walk (read before) bytes at)) where
  pub steps-many : (n : ℕ) (before : List A) (at : ℕ) (r : Result ℕ Refusal) → Known before at → Steps Call n at r → r ≡ spot (walk (many read n before) bytes at)
  unfolding Steps many spot walk
  steps-many zero before at r known s = s
  steps-many (suc n) before at r known (a, call, s) =
      go (walk (read before) bytes at) refl a (calls before at a known call) s (λ x m k t. steps-many n (before ++ (x ∷ [])) m r k t) ∙ sym (ap spot (walk-bind (read before) _ bytes at))
    where
      go : (w : Walked A) → walk (read before) bytes at ≡ w → (a : Result ℕ Refusal) → a ≡ spot w → MatchResult a (λ next. Steps Call n next r) (λ e. r ≡ Err e)
          → ((x : A) (m : ℕ) → Known (before ++ (x ∷ [])) m → Steps Call n m r → r ≡ spot (walk (many read n (before ++ (x ∷ []))) bytes m))
          → r ≡ spot (onto w (λ a m. walk (many read n (before ++ (a ∷ []))) bytes m))
      go (came x m) p (Ok next) e t again =
          let z : next ≡ m = cc in
          again x m (keeps before at x m known p) (rw z at t)
      go (came x m) p (Err d) e t again = absurd (let z : ◌≡◌ {A = ℕ} 0 1 = cc in omega arith)
      go (stop x y) p (Ok next) e t again = absurd (let z : ◌≡◌ {A = ℕ} 0 1 = cc in omega arith)
      go (stop x y) p (Err d) e t again = t ∙ e

-- a section by its count and steps over its entries
module _ {A : Type 0} (form : Form A) (lawful : Lawful form) (bytes : List ℕ) (at : ℕ) (Call : ℕ → Result ℕ Refusal → Type 0)
    (leads : (n : ℕ) (r : Result ℕ Refusal) → Steps Call n (at + 1) r → r ≡ spot (walk (many form.read n []) bytes (at + 1))) where
  pub section-numbered : (r : Result Part Refusal) → Section Call bytes at r → r ≡ numbered (walk (section form false 255) bytes at)
  unfolding section numbered spot
  section-numbered r (Err e, w, h) = h ∙ rw (bind-stop _ _ bytes at w) refl
  section-numbered r (Ok n, w, (a, s, h)) = h ∙ ap (part_of n) (leads n a s) ∙ go (walk (many form.read n []) bytes (at + 1)) refl
    where
      go : (v : Walked (List A)) → walk (many form.read n []) bytes (at + 1) ≡ v → part_of n (spot v) ≡ numbered (walk (section form false 255) bytes at)
      go (came l m) p = many-only form lawful n [] bytes (at + 1) l m p λ k is-k long goods stands.
          let z : length l ≡ n = ap length is-k ∙ long in
          rw (bind-on _ _ bytes at w p, z) refl
      go (stop x y) p = rw (bind-on _ _ bytes at w p) refl

-- frames and refused frames are read in the same way, whatever stands before them
pub frame_same : (n : ℕ) (before : List Frame) → (frame n).read before ≡ (frame n).read []
unfolding frame
frame_same n before = refl

pub refused-same : (n : ℕ) (before : List RefusedFrame) → (refused_frame n).read before ≡ (refused_frame n).read []
unfolding refused_frame
refused-same n before = refl

module _ {A : Type 0} (read : List A → Script A) (same : (before : List A) → read before ≡ read []) (bytes : List ℕ) (Call : ℕ → Result ℕ Refusal → Type 0)
    (calls : (at : ℕ) (r : Result ℕ Refusal) → Call at r → r ≡ spot (walk (read []) bytes at)) where
  pub same-many : (n at : ℕ) (r : Result ℕ Refusal) → Steps Call n at r → r ≡ spot (walk (many read n []) bytes at)
  same-many n at r s = steps-many read bytes (λ before at. Unit {0}) (λ before at a m known e. tt) Call (λ before at r known call. rw (same before) (calls at r call)) n [] at r tt s

-- a setting is read in the light of those before it, which the file itself has
pub put-setting : (s : Setting) → setting.put s ≡ (s.sf ∷ s.low ∷ [])
unfolding setting
put-setting s = refl

module _ (bytes : List ℕ) where
  pub stood : (j m : ℕ) (s : Setting) → Stands (s.sf ∷ s.low ∷ []) bytes (2 + 2 * j) m → (s ≡ pair_at 2 bytes j) × (m ≡ 2 + 2 * (j + 1))
  unfolding pair_at
  stood j m s p =
      let (first, rest) = stands-split bytes (s.sf ∷ []) (s.low ∷ []) (2 + 2 * j) m p in
      let a : get_or bytes (2 + 2 * j) 0 ≡ s.sf = (stands_here bytes s.sf (2 + 2 * j) _ first.is).1 in
      let b : get_or bytes (2 + 2 * j + 1) 0 ≡ s.low = (stands_here bytes s.low (2 + 2 * j + 1) _ rest.is).1 in
      (rw (a, b), p.long ∙ omega arith)

  -- the settings before the place of setting j
  pub earlier : (j : ℕ) → settings_before bytes (2 + 2 * j) ≡ tab j (pair_at 2 bytes)
  unfolding settings_before
  earlier j =
      let z : (2 + 2 * j - 2) / 2 ≡ j = omega arith in
      rw z

  record Before (before : List Setting) (at : ℕ) : Type 0 where
    count : ℕ
    place : at ≡ 2 + 2 * count
    are : before ≡ tab count (pair_at 2 bytes)

  next-setting : (before : List Setting) (at : ℕ) (s : Setting) (m : ℕ) → Before before at → walk (setting.read before) bytes at ≡ came s m → Before (before ++ (s ∷ [])) m
  unfolding tab
  next-setting before at s m b e =
      let (is, next) = stood b.count m s (rw (put-setting, b.place) at ((setting-lawful before).only bytes at s m e).1) in
      record { count = suc b.count; place = next ∙ omega arith; are = ap (λ l. l ++ (s ∷ [])) b.are ∙ rw is }

  pub settings-many : (Call : ℕ → Result ℕ Refusal → Type 0)
      → ((at : ℕ) (r : Result ℕ Refusal) → Call at r → r ≡ spot (walk (setting.read (settings_before bytes at)) bytes at))
      → (n : ℕ) (r : Result ℕ Refusal) → Steps Call n 2 r → r ≡ spot (walk (many setting.read n []) bytes 2)
  unfolding tab
  settings-many Call calls n r s =
      let start : Before [] 2 = record { count = 0; place = refl; are = refl } in
      steps-many setting.read bytes Before next-setting Call
      (λ before at r b call. rw (b.are, ← earlier b.count, ← b.place) (calls at r call)) n [] 2 r start s
