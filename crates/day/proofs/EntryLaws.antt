-- Frames, refused frames and settings, field by field: what the walk over a field comes to, and the walk over the whole.
-- Assumes nothing.
use mathlib.Core.Path.{◌≡◌, refl, ap, ◌∙◌}
use mathlib.Core.Bool.{Bool, true, false, not, ◌&&◌}
use mathlib.Core.List.{List, [], ◌∷◌, ◌++◌, map}
use Prim.Native.Nat.{ℕ, zero, suc, ◌+◌, ◌-◌, ◌*◌, ◌/◌, ◌<◌, ◌≤◌}
use native.Mathlib.Numerals.{add-one}
use native.Mathlib.Omega.{arith}
use lib.Dec.{ltb}
use lib.ListN.{length, get_or, take, drop, length-drop}
use lib.Seq.{length-take-le}
use Rattle.std.specs.Prelude.{Ok}
use Rattle.std.specs.List.{list_any, range_with_len}
use Rattle.std.proofs.lemmas.List.FromFn.{map-range_with_len_more}
use Rattle.bits.specs.Check.{check}
use Rattle.bits.specs.Tab.{tab, Bytes}
use Rattle.day.specs.Script.{one, Walked, came, stop, walk}
use Rattle.day.specs.Day.{Setting, Frame, RefusedFrame, within, is_byte, is_flag, is_number, is_new, given, is_pair, setting, frame, refused_frame}
use Rattle.day.specs.Stages.{frame_seen, pair_at, settings_before}
use Rattle.day.proofs.ScriptLaws.{bind-on, bind-stop, done-back, one_only, one_on, one_outside, stands_here}
use Rattle.day.proofs.ReaderLaws.{two-off-low, two-off-high, two-on, payload-on, payload-off}

-- the frame at a place
module _ (bytes : List ℕ) (n at : ℕ) where
  abbrev Frames : Walked Frame → Type 0
  Frames r = walk ((frame n).read []) bytes at ≡ r

  pub no_index : {x y : ℕ} → walk (one (within 0 n)) bytes at ≡ stop x y → Frames (stop x y)
  unfolding frame
  no_index w = bind-stop _ _ bytes at w

  module _ {i : ℕ} (w0 : walk (one (within 0 n)) bytes at ≡ came i (at + 1)) where
    pub no-cr : {x y : ℕ} → walk (one (within 1 5)) bytes (at + 1) ≡ stop x y → Frames (stop x y)
    unfolding frame
    no-cr w = bind-on _ _ bytes at w0 (bind-stop _ _ bytes (at + 1) w)

    module _ {c : ℕ} (w1 : walk (one (within 1 5)) bytes (at + 1) ≡ came c (at + 1 + 1)) where
      to-flag : walk (one (within 1 5)) bytes (at + 1) ≡ came c (at + 2)
      to-flag = w1 ∙ ap (came c) (omega arith)

      pub no_flag : {x y : ℕ} → walk (one (within 0 2)) bytes (at + 2) ≡ stop x y → Frames (stop x y)
      unfolding frame
      no_flag w = bind-on _ _ bytes at w0 (bind-on _ _ bytes (at + 1) to-flag (bind-stop _ _ bytes (at + 2) w))

      module _ {f : ℕ} (w2 : walk (one (within 0 2)) bytes (at + 2) ≡ came f (at + 2 + 1)) where
        to-repairs : walk (one (within 0 2)) bytes (at + 2) ≡ came f (at + 3)
        to-repairs = w2 ∙ ap (came f) (omega arith)

        pub no-low : {x y : ℕ} → walk (one is_byte) bytes (at + 3) ≡ stop x y → Frames (stop x y)
        unfolding frame
        no-low w = bind-on _ _ bytes at w0 (bind-on _ _ bytes (at + 1) to-flag (bind-on _ _ bytes (at + 2) to-repairs (bind-stop _ _ bytes (at + 3) (two-off-low bytes (at + 3) w))))

        module _ {l : ℕ} (w3 : walk (one is_byte) bytes (at + 3) ≡ came l (at + 3 + 1)) where
          to-high : walk (one is_byte) bytes (at + 3) ≡ came l (at + 4)
          to-high = w3 ∙ ap (came l) (omega arith)

          pub no-high : {x y : ℕ} → walk (one is_byte) bytes (at + 4) ≡ stop x y → Frames (stop x y)
          unfolding frame
          no-high w = bind-on _ _ bytes at w0 (bind-on _ _ bytes (at + 1) to-flag (bind-on _ _ bytes (at + 2) to-repairs (bind-stop _ _ bytes (at + 3) (two-off-high bytes (at + 3) to-high w))))

          module _ {h : ℕ} (w4 : walk (one is_byte) bytes (at + 4) ≡ came h (at + 4 + 1)) where
            to-length : walk (one is_byte) bytes (at + 4) ≡ came h (at + 5)
            to-length = w4 ∙ ap (came h) (omega arith)

            pub no_length : {x y : ℕ} → walk (one is_byte) bytes (at + 5) ≡ stop x y → Frames (stop x y)
            unfolding frame
            no_length w = bind-on _ _ bytes at w0 (bind-on _ _ bytes (at + 1) to-flag (bind-on _ _ bytes (at + 2) to-repairs
                (bind-on _ _ bytes (at + 3) (two-on bytes (at + 3) to-high to-length) (bind-stop _ _ bytes (at + 5) w))))

            module _ {k : ℕ} (w5 : walk (one is_byte) bytes (at + 5) ≡ came k (at + 5 + 1)) (small : Bytes bytes) (there : at + 6 ≤ length bytes) where
              to-payload : walk (one is_byte) bytes (at + 5) ≡ came k (at + 6)
              to-payload = w5 ∙ ap (came k) (omega arith)

              pub no_payload : length bytes < at + 6 + k → Frames (stop 15 (length bytes))
              unfolding frame
              no_payload e = bind-on _ _ bytes at w0 (bind-on _ _ bytes (at + 1) to-flag (bind-on _ _ bytes (at + 2) to-repairs
                  (bind-on _ _ bytes (at + 3) (two-on bytes (at + 3) to-high to-length) (bind-on _ _ bytes (at + 5) to-payload
                  (bind-stop _ _ bytes (at + 6) (payload-off bytes small k [] (at + 6) there e))))))

              is-frame : at + 6 + k ≤ length bytes → Frames (came (record { setting = i; cr = c; flag = f; repairs = l + 256 * h; payload = take k (drop (at + 6) bytes) }) (at + 6 + k))
              unfolding frame
              is-frame e = bind-on _ _ bytes at w0 (bind-on _ _ bytes (at + 1) to-flag (bind-on _ _ bytes (at + 2) to-repairs
                  (bind-on _ _ bytes (at + 3) (two-on bytes (at + 3) to-high to-length) (bind-on _ _ bytes (at + 5) to-payload
                  (bind-on _ _ bytes (at + 6) (payload-on bytes small k [] (at + 6) e) (done-back _ bytes _))))))

              pub seen-frame : at + 6 + k ≤ length bytes
                  → Ok (record { setting = i; cr = c; flag = f; repairs = l + 256 * h; start = at + 6; end = at + 6 + k }) ≡ frame_seen (walk ((frame n).read []) bytes at)
              unfolding frame_seen
              seen-frame e =
                  let long : length (take k (drop (at + 6) bytes)) ≡ k = length-take-le _ _ (rw length-drop (omega arith)) in
                  let start : at + 6 + k - k ≡ at + 6 = omega arith in
                  rw (is-frame e, long, start)

-- the refused frame at a place
module _ (bytes : List ℕ) (n at : ℕ) where
  abbrev Refuses : Walked RefusedFrame → Type 0
  Refuses r = walk ((refused_frame n).read []) bytes at ≡ r

  pub no-setting : {x y : ℕ} → walk (one (within 0 n)) bytes at ≡ stop x y → Refuses (stop x y)
  unfolding refused_frame
  no-setting w = bind-stop _ _ bytes at w

  module _ {i : ℕ} (w0 : walk (one (within 0 n)) bytes at ≡ came i (at + 1)) where
    pub no_number : {x y : ℕ} → walk (one is_number) bytes (at + 1) ≡ stop x y → Refuses (stop x y)
    unfolding refused_frame
    no_number w = bind-on _ _ bytes at w0 (bind-stop _ _ bytes (at + 1) w)

    module _ {k : ℕ} (w1 : walk (one is_number) bytes (at + 1) ≡ came k (at + 1 + 1)) where
      to-place : walk (one is_number) bytes (at + 1) ≡ came k (at + 2)
      to-place = w1 ∙ ap (came k) (omega arith)

      pub no-place-low : {x y : ℕ} → walk (one is_byte) bytes (at + 2) ≡ stop x y → Refuses (stop x y)
      unfolding refused_frame
      no-place-low w = bind-on _ _ bytes at w0 (bind-on _ _ bytes (at + 1) to-place (bind-stop _ _ bytes (at + 2) (two-off-low bytes (at + 2) w)))

      module _ {l : ℕ} (w2 : walk (one is_byte) bytes (at + 2) ≡ came l (at + 2 + 1)) where
        to-place-high : walk (one is_byte) bytes (at + 2) ≡ came l (at + 3)
        to-place-high = w2 ∙ ap (came l) (omega arith)

        pub no-place-high : {x y : ℕ} → walk (one is_byte) bytes (at + 3) ≡ stop x y → Refuses (stop x y)
        unfolding refused_frame
        no-place-high w = bind-on _ _ bytes at w0 (bind-on _ _ bytes (at + 1) to-place (bind-stop _ _ bytes (at + 2) (two-off-high bytes (at + 2) to-place-high w)))

        pub is-refused : {h : ℕ} → walk (one is_byte) bytes (at + 3) ≡ came h (at + 3 + 1) → Refuses (came (record { setting = i; number = k; place = l + 256 * h }) (at + 4))
        unfolding refused_frame
        is-refused {h} w = bind-on _ _ bytes at w0 (bind-on _ _ bytes (at + 1) to-place
            (bind-on _ _ bytes (at + 2) (two-on bytes (at + 2) to-place-high (w ∙ ap (came h) (omega arith))) (done-back _ bytes _)))

-- a pair among settings
any-given : (sf low : ℕ) (l : List Setting) → list_any (is_pair sf low) l ≡ given sf low l
unfolding given
any-given sf low [] = refl
any-given sf low (s ∷ l) = rw (any-given sf low l) refl

any-map : {A : Type 0} (p : A → Bool) (f : ℕ → A) (l : List ℕ) → list_any (λ k. p (f k)) l ≡ list_any p (map f l)
any-map p f [] = refl
any-map p f (k ∷ l) = rw (any-map p f l) refl

tab-range : {A : Type 0} (n : ℕ) (f : ℕ → A) → map f (range_with_len 0 n) ≡ tab n f
unfolding tab
tab-range zero f = refl
tab-range (suc n) f = rw add-one at (map-range_with_len_more f 0 n n (omega arith)) ∙ ap (λ l. l ++ (f n ∷ [])) (tab-range n f)

pub any-pair : (sf low n : ℕ) (f : ℕ → Setting) → list_any (λ k. is_pair sf low (f k)) (range_with_len 0 n) ≡ given sf low (tab n f)
any-pair sf low n f = any-map (is_pair sf low) f (range_with_len 0 n) ∙ rw (tab-range n f) (any-given sf low (tab n f))

-- the setting at a place, in the light of those before it
module _ (bytes : List ℕ) (at : ℕ) (before : List Setting) where
  abbrev Sets : Walked Setting → Type 0
  Sets r = walk (setting.read before) bytes at ≡ r

  pub no-sf : {x y : ℕ} → walk (one (within 7 13)) bytes at ≡ stop x y → Sets (stop x y)
  unfolding setting
  no-sf w = bind-stop _ _ bytes at w

  module _ {sf : ℕ} (w0 : walk (one (within 7 13)) bytes at ≡ came sf (at + 1)) where
    -- a flag outside its range is no flag of a new pair either
    pub no-low-rate : {x y : ℕ} → walk (one is_flag) bytes (at + 1) ≡ stop x y → Sets (stop x y)
    unfolding setting walk one
    no-low-rate {x} {y} w = bind-on _ _ bytes at w0 (bind-stop _ _ bytes (at + 1) (go (ltb (at + 1) (length bytes)) (is_flag low) (not (given sf low before)) w))
      where
        low : ℕ
        low = get_or bytes (at + 1) 0

        go : (p q t : Bool) → check p (stop 15 (at + 1)) (check q (stop 16 (at + 1)) (came low (at + 1 + 1))) ≡ stop x y
            → check p (stop 15 (at + 1)) (check (q && t) (stop 16 (at + 1)) (came low (at + 1 + 1))) ≡ stop x y
        go true true t d = absurd (let z : ◌≡◌ {A = ℕ} 0 1 = cc in omega arith)
        go true false t d = d
        go false q t d = d

    module _ {low : ℕ} (w1 : walk (one is_flag) bytes (at + 1) ≡ came low (at + 1 + 1)) where
      flag-there : (at + 1 < length bytes) × (get_or bytes (at + 1) 0 ≡ low)
      flag-there = stands_here bytes low (at + 1) _ (one_only is_flag bytes (at + 1) low (at + 1 + 1) w1).1.is

      flag-fine : is_flag low ≡ true
      flag-fine = (one_only is_flag bytes (at + 1) low (at + 1 + 1) w1).0

      pub given-again : given sf low before ≡ true → Sets (stop 16 (at + 1))
      unfolding setting
      given-again g =
          let no : is_new before sf (get_or bytes (at + 1) 0) ≡ false = rw (flag-there.1, flag-fine, g) refl in
          bind-on _ _ bytes at w0 (bind-stop _ _ bytes (at + 1) (one_outside (is_new before sf) bytes (at + 1) flag-there.0 no))

      pub is-setting : given sf low before ≡ false → Sets (came (record { sf = sf; low = low }) (at + 2))
      unfolding setting
      is-setting g =
          let ok : is_new before sf (get_or bytes (at + 1) 0) ≡ true = rw (flag-there.1, flag-fine, g) refl in
          let came-low : walk (one (is_new before sf)) bytes (at + 1) ≡ came low (at + 2) = one_on (is_new before sf) bytes (at + 1) flag-there.0 ok ∙ rw flag-there.1 (ap (came low) (omega arith)) in
          bind-on _ _ bytes at w0 (bind-on _ _ bytes (at + 1) came-low (done-back _ bytes _))

-- the settings before a place, counted
pub among : (bytes : List ℕ) (at j sf low : ℕ) (r : Bool) → j ≡ (at - 2) / 2 → r ≡ given sf low (tab j (pair_at 2 bytes)) → r ≡ given sf low (settings_before bytes at)
unfolding settings_before
among bytes at j sf low r e p = p ∙ rw e
