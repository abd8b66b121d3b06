-- The day's file: what was written is read back, and a file that is taken is the only one for its entries.
-- Assumes nothing.
use mathlib.Core.Path.{◌≡◌, refl, sym, ◌∙◌}
use mathlib.Core.Bool.{Bool, true, false}
use mathlib.Core.List.{List, [], ◌∷◌, append-nil}
use Prim.Native.Nat.{ℕ, ◌+◌, ◌*◌, ◌/◌, ◌%◌, ◌<◌, ◌≤◌}
use native.Mathlib.Omega.{arith}
use borrow.Author.Tests.{lt-ltb, le-leb, ltb-true, leb-true, eqb-true, eq-eqb}
use lib.Dec.{ltb, leb, eqb}
use lib.ListN.{length, drop, drop_of_length-le}
use Rattle.bits.specs.Check.{check}
use Rattle.day.specs.Script.{Walked, came, stop, walk, taken, refused, whole, Form}
use Rattle.day.specs.Day.{Day, Kind, is_byte, two, low_first, count, put_count, setting, any_byte, frame, refused_frame, section, good_section, put_section, day, good_day, file_of, judged}
use Rattle.day.proofs.ScriptLaws.{both_true, true-both, Stands, stands-append, stands-split, bind-on, bind-only, done-only, done-back, one_only, one-back, byte-only, byte-back, Spells, Lawful, many-only, many-back}

-- two bytes low first
two-spells : (most : ℕ) → most ≤ 65535 → Spells (two most) (λ n. leb n most) low_first
unfolding two low_first
two-spells most h = record {
  only = λ bytes at n next e.
      byte-only _ _ bytes at n next e λ low m1 t1 s1 e1.
      byte-only _ _ bytes m1 n next e1 λ high m2 t2 s2 e2.
      let (is, z) = done-only _ n bytes m2 next e2 in
      let l : low < 256 = ltb-true low 256 (both_true (leb 0 low) (ltb low 256) t1).1 in
      let a : n % 256 ≡ low = omega arith in
      let b : n / 256 ≡ high = omega arith in
      (rw is t2, rw (a, b, z) (stands-append bytes s1 s2));
  back = λ bytes at n next g s.
      let le : n ≤ most = leb-true _ _ g in
      let v : n % 256 + 256 * (n / 256) ≡ n = omega arith in
      byte-back _ _ bytes at (n % 256) (n / 256 ∷ []) next (true-both {p = leb 0 (n % 256)} (le-leb 0 (n % 256) (omega arith)) (lt-ltb (n % 256) 256 (omega arith))) s (λ s1.
      byte-back _ _ bytes _ (n / 256) [] next (rw v g) s1 (λ s2.
      let z : next ≡ at + 1 + 1 = s2.long ∙ omega arith in
      rw (v, z) (done-back n bytes _)));
}

pub count-spells : (wide : Bool) (most : ℕ) → most ≤ 65535 → Spells (count wide most) (λ n. leb n most) (put_count wide)
unfolding count put_count
count-spells true most h = two-spells most h
count-spells false most h = record { only = λ bytes at n next e. one_only _ bytes at n next e; back = λ bytes at n next g s. one-back _ bytes at n next g s }

pub setting-lawful : Lawful setting
unfolding setting
setting-lawful before = record {
  only = λ bytes at a next e.
      byte-only _ _ bytes at a next e λ sf m1 t1 s1 e1.
      byte-only _ _ bytes m1 a next e1 λ low m2 t2 s2 e2.
      let (is, z) = done-only _ a bytes m2 next e2 in
      (rw is (true-both t1 t2), rw (is, z) (stands-append bytes s1 s2));
  back = λ bytes at a next g s.
      let (g1, g2) = both_true _ _ g in
      byte-back _ _ bytes at a.sf (a.low ∷ []) next g1 s (λ s1.
      byte-back _ _ bytes _ a.low [] next g2 s1 (λ s2.
      let z : next ≡ at + 1 + 1 = s2.long ∙ omega arith in
      rw z (done-back a bytes _)));
}

pub any_byte-lawful : Lawful any_byte
unfolding any_byte
any_byte-lawful before = record { only = λ bytes at a next e. one_only _ bytes at a next e; back = λ bytes at a next g s. one-back _ bytes at a next g s }

pub refused_frame-lawful : (settings : ℕ) → Lawful (refused_frame settings)
unfolding refused_frame
refused_frame-lawful settings before = record {
  only = λ bytes at a next e.
      byte-only _ _ bytes at a next e λ index m1 t1 s1 e1.
      byte-only _ _ bytes m1 a next e1 λ number m2 t2 s2 e2.
      bind-only _ _ bytes m2 a next e2 λ place m3 w3 e3.
      let (t3, s3) = (two-spells 65535 (omega arith)).only bytes m2 place m3 w3 in
      let (is, z) = done-only _ a bytes m3 next e3 in
      (rw is (true-both t1 (true-both t2 t3)), rw (is, z) (stands-append bytes s1 (stands-append bytes s2 s3)));
  back = λ bytes at a next g s.
      let (g1, g') = both_true _ _ g in
      let (g2, g3) = both_true _ _ g' in
      byte-back _ _ bytes at a.setting (a.number ∷ low_first a.place) next g1 s (λ s1.
      byte-back _ _ bytes _ a.number (low_first a.place) next g2 s1 (λ s2.
      bind-on _ _ bytes _ ((two-spells 65535 (omega arith)).back bytes _ a.place next g3 s2) (done-back a bytes _)));
}

pub frame-lawful : (settings : ℕ) → Lawful (frame settings)
unfolding frame
frame-lawful settings before = record {
  only = λ bytes at a next e.
      byte-only _ _ bytes at a next e λ index m1 t1 s1 e1.
      byte-only _ _ bytes m1 a next e1 λ cr m2 t2 s2 e2.
      byte-only _ _ bytes m2 a next e2 λ flag m3 t3 s3 e3.
      bind-only _ _ bytes m3 a next e3 λ repairs m4 w4 e4.
      let (t4, s4) = (two-spells 65535 (omega arith)).only bytes m3 repairs m4 w4 in
      byte-only _ _ bytes m4 a next e4 λ len m5 t5 s5 e5.
      bind-only _ _ bytes m5 a next e5 λ payload m6 w6 e6.
      many-only any_byte any_byte-lawful len [] bytes m5 payload m6 w6 λ l is6 long t6 s6.
      let (is, z) = done-only _ a bytes m6 next e6 in
      let t5' : is_byte (length l) ≡ true = rw long t5 in
      let s5' : Stands (length l ∷ []) bytes m4 m5 = rw long s5 in (
        rw (is, is6) (true-both t1 (true-both t2 (true-both t3 (true-both t4 (true-both t5' t6))))),
        rw (is, z, is6) (stands-append bytes s1 (stands-append bytes s2 (stands-append bytes s3 (stands-append bytes s4 (stands-append bytes s5' s6))))),
      );
  back = λ bytes at a next g s.
      let (g1, ga) = both_true _ _ g in
      let (g2, gb) = both_true _ _ ga in
      let (g3, gc) = both_true _ _ gb in
      let (g4, gd) = both_true _ _ gc in
      let (g5, g6) = both_true _ _ gd in
      byte-back _ _ bytes at a.setting _ next g1 s (λ s1.
      byte-back _ _ bytes _ a.cr _ next g2 s1 (λ s2.
      byte-back _ _ bytes _ a.flag _ next g3 s2 (λ s3.
      let (s4, s5) = stands-split bytes (low_first a.repairs) _ _ next s3 in
      bind-on _ _ bytes _ ((two-spells 65535 (omega arith)).back bytes _ a.repairs _ g4 s4) (
      byte-back _ _ bytes _ (length a.payload) _ next g5 s5 (λ s6.
      bind-on _ _ bytes _ (many-back any_byte any_byte-lawful a.payload [] bytes _ next g6 s6) (done-back a bytes _))))));
}

section-spells : {A : Type 0} (form : Form A) → Lawful form → (wide : Bool) (most : ℕ) → most ≤ 65535 → Spells (section form wide most) (good_section form most) (put_section form wide)
unfolding section good_section put_section
section-spells form lawful wide most h = record {
  only = λ bytes at a next e.
      bind-only _ _ bytes at a next e λ n m1 w1 e1.
      let (t1, s1) = (count-spells wide most h).only bytes at n m1 w1 in
      many-only form lawful n [] bytes m1 a next e1 λ l is long t2 s2.
      let t1' : leb (length l) most ≡ true = rw long t1 in
      let s1' : Stands (put_count wide (length l)) bytes at m1 = rw long s1 in
      (rw is (true-both t1' t2), rw is (stands-append bytes s1' s2));
  back = λ bytes at a next g s.
      let (g1, g2) = both_true _ _ g in
      let (s1, s2) = stands-split bytes (put_count wide (length a)) _ at next s in
      bind-on _ _ bytes at ((count-spells wide most h).back bytes at (length a) _ g1 s1) (many-back form lawful a [] bytes _ next g2 s2);
}

day-spells : (k : Kind) → k.most ≤ 65535 → Spells (day k) (good_day k) (file_of k)
unfolding day good_day file_of
day-spells k h = record {
  only = λ bytes at a next e.
      byte-only _ _ bytes at a next e λ mark m1 t1 s1 e1.
      bind-only _ _ bytes m1 a next e1 λ ss m2 w2 e2.
      bind-only _ _ bytes m2 a next e2 λ fs m3 w3 e3.
      bind-only _ _ bytes m3 a next e3 λ rs m4 w4 e4.
      let (is, z) = done-only _ a bytes m4 next e4 in
      let (t2, s2) = (section-spells setting setting-lawful false 255 (omega arith)).only bytes m1 ss m2 w2 in
      let (t3, s3) = (section-spells (frame (length ss)) (frame-lawful (length ss)) k.wide k.most h).only bytes m2 fs m3 w3 in
      let (t4, s4) = (section-spells (refused_frame (length ss)) (refused_frame-lawful (length ss)) k.wide k.most h).only bytes m3 rs m4 w4 in
      (rw is (true-both t2 (true-both t3 t4)), rw (is, z, ← eqb-true mark k.mark t1) (stands-append bytes s1 (stands-append bytes s2 (stands-append bytes s3 s4))));
  back = λ bytes at a next g s.
      let (g1, g') = both_true _ _ g in
      let (g2, g3) = both_true _ _ g' in
      let ss = a.settings in
      byte-back _ _ bytes at k.mark _ next (eq-eqb k.mark k.mark refl) s (λ s0.
      let (s1, s') = stands-split bytes (put_section setting false ss) _ _ next s0 in
      let (s2, s3) = stands-split bytes (put_section (frame (length ss)) k.wide a.frames) _ _ next s' in
      bind-on _ _ bytes _ ((section-spells setting setting-lawful false 255 (omega arith)).back bytes _ ss _ g1 s1) (
      bind-on _ _ bytes _ ((section-spells (frame (length ss)) (frame-lawful (length ss)) k.wide k.most h).back bytes _ a.frames _ g2 s2) (
      bind-on _ _ bytes _ ((section-spells (refused_frame (length ss)) (refused_frame-lawful (length ss)) k.wide k.most h).back bytes _ a.refused next g3 s3) (done-back a bytes _))));
}

module _ (k : Kind) (h : k.most ≤ 65535) where
  -- Writing then reading returns the same entries.
  pub read_back : (e : Day) → good_day k e ≡ true → judged k (file_of k e) ≡ taken e
  unfolding judged
  read_back e g =
      let file = file_of k e in
      let end : drop (length file) file ≡ [] = drop_of_length-le file {i = length file} (omega arith) in
      let stands : Stands file file 0 (length file) = record { is = rw end (sym (append-nil file)); long = omega arith } in
      rw ((day-spells k h).back file 0 e (length file) g stands, eq-eqb (length file) (length file) refl)

  -- A file that the reader takes is the only file for its entries, and they are such as can be written.
  pub only-file : (bytes : List ℕ) (e : Day) → judged k bytes ≡ taken e → (good_day k e ≡ true) × (bytes ≡ file_of k e)
  unfolding judged
  only-file bytes e q = go (walk (day k) bytes 0) refl q
    where
      go : (w : Walked Day) → walk (day k) bytes 0 ≡ w → whole bytes w ≡ taken e → (good_day k e ≡ true) × (bytes ≡ file_of k e)
      go (came a n) p t = at-end (eqb n (length bytes)) refl t
        where
          at-end : (b : Bool) → eqb n (length bytes) ≡ b → check b (refused 15 n) (taken a) ≡ taken e → (good_day k e ≡ true) × (bytes ≡ file_of k e)
          at-end true r u =
              let v : a ≡ e = cc in
              let (g, s) = (day-spells k h).only bytes 0 a n p in
              let end : drop n bytes ≡ [] = drop_of_length-le bytes {i = n} (omega (arith, eqb-true n (length bytes) r)) in
              (rw (← v) g, rw (← v) (s.is ∙ rw end (append-nil (file_of k a))))
          at-end false r u = absurd (let z : ◌≡◌ {A = ℕ} 0 1 = cc in omega arith)
      go (stop x y) p t = absurd (let z : ◌≡◌ {A = ℕ} 0 1 = cc in omega arith)
