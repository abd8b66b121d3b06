-- The whole file, as the check sees it.
-- Assumes nothing.
use mathlib.Core.Path.{◌≡◌, refl, sym, ◌∙◌}
use mathlib.Core.Bool.{Bool, true, false}
use mathlib.Core.List.{List}
use Prim.Native.Nat.{ℕ}
use native.Mathlib.Omega.{arith}
use borrow.Author.Tests.{eq-eqb, ne_eqb, ltb-true, ltb-false, leb-true, leb-false}
use lib.Dec.{ltb, leb, eqb}
use lib.ListN.{length, get_or}
use Rattle.std.specs.Prelude.{Result, Ok, Err}
use Rattle.refusal.specs.Refusal.{refuse}
use Rattle.refusal.specs.declared.Refusal.{Refusal}
use Rattle.day.specs.Script.{one, Walked, came, stop, walk}
use Rattle.day.specs.Day.{Day, kind1, within, setting, frame, refused_frame, section, day, judged}
use Rattle.day.specs.Stages.{numbered, verdict}
use Rattle.day.specs.declared.Taken.{Taken}
use Rattle.day.specs.declared.sections.Part.{Part}
use Rattle.day.proofs.ScriptLaws.{bind-on, bind-stop, done-back}
use Rattle.day.proofs.ReaderLaws.{one-cong}
use Rattle.day.proofs.SeenLaws.{told-came, told-stop}

-- the first byte is 1
mark-test : (b : ℕ) → eqb b 1 ≡ within 1 2 b
mark-test b = go (leb 1 b) (ltb b 2) refl refl
  where
    go : (s t : Bool) → leb 1 b ≡ s → ltb b 2 ≡ t → eqb b 1 ≡ within 1 2 b
    go true true e f = eq-eqb b 1 (omega (arith, leb-true 1 b e, ltb-true b 2 f)) ∙ sym (rw (e, f))
    go true false e f = ne_eqb b 1 (λ q. omega (arith, ltb-false b 2 f)) ∙ sym (rw (e, f))
    go false t e f = ne_eqb b 1 (λ q. omega (arith, leb-false 1 b e)) ∙ sym (rw e)

pub mark-reads : (bytes : List ℕ) (at : ℕ) → walk (one (λ b. eqb b 1)) bytes at ≡ walk (one (within 1 2)) bytes at
mark-reads bytes at = one-cong _ (within 1 2) bytes at (mark-test (get_or bytes at 0))

-- a section's answer, taken apart
part-came : {A : Type 0} {w : Walked (List A)} {p : Part} → Ok p ≡ numbered w → {R : Type 0} → ((l : List A) → w ≡ came l p.end → length l ≡ p.entries → R) → R
unfolding numbered
part-came {A} {w} {p} q then = told-came _ w p q λ l m is from. then l (rw from is) (rw from refl)

part-stop : {A : Type 0} {w : Walked (List A)} {e : Refusal} → Err e ≡ numbered w → w ≡ stop e.number e.place
unfolding numbered
part-stop {A} {w} {e} q = told-stop _ w e q

module _ (bytes : List ℕ) where
  abbrev pub Judges : Result Taken Refusal → Type 0
  Judges v = v ≡ verdict (judged kind1 bytes)

  judge-stop : {x y : ℕ} → walk (day kind1) bytes 0 ≡ stop x y → Judges (refuse x y)
  unfolding judged verdict
  judge-stop e = rw e refl

  pub no-mark : (e : Refusal) → walk (one (within 1 2)) bytes 0 ≡ stop e.number e.place → Judges (Err e)
  unfolding day
  no-mark e w = judge-stop (bind-stop _ _ bytes 0 (mark-reads bytes 0 ∙ w))

  module _ {mark : ℕ} (w0 : walk (one (within 1 2)) bytes 0 ≡ came mark 1) where
    marked : walk (one (λ b. eqb b 1)) bytes 0 ≡ came mark 1
    marked = mark-reads bytes 0 ∙ w0

    pub stops-1 : (e : Refusal) → Err e ≡ numbered (walk (section setting false 255) bytes 1) → Judges (Err e)
    unfolding day
    stops-1 e q = judge-stop (bind-on _ _ bytes 0 marked (bind-stop _ _ bytes 1 (part-stop q)))

    module _ {p : Part} (r1 : Ok p ≡ numbered (walk (section setting false 255) bytes 1)) where
      pub stops-2 : (e : Refusal) → Err e ≡ numbered (walk (section (frame p.entries) false 255) bytes p.end) → Judges (Err e)
      unfolding day
      stops-2 e q = part-came r1 λ ss p1 l1. judge-stop (bind-on _ _ bytes 0 marked (bind-on _ _ bytes 1 p1 (rw l1 (bind-stop _ _ bytes p.end (part-stop q)))))

      module _ {f : Part} (r2 : Ok f ≡ numbered (walk (section (frame p.entries) false 255) bytes p.end)) where
        pub stops-3 : (e : Refusal) → Err e ≡ numbered (walk (section (refused_frame p.entries) false 255) bytes f.end) → Judges (Err e)
        unfolding day
        stops-3 e q = part-came r1 λ ss p1 l1. part-came r2 λ fs p2 l2.
            judge-stop (bind-on _ _ bytes 0 marked (bind-on _ _ bytes 1 p1 (rw l1 (bind-on _ _ bytes p.end p2 (bind-stop _ _ bytes f.end (part-stop q))))))

        module _ {r : Part} (r3 : Ok r ≡ numbered (walk (section (refused_frame p.entries) false 255) bytes f.end)) where
          comes : {V : Type 0} → ((e : Day) → walk (day kind1) bytes 0 ≡ came e r.end → length e.settings ≡ p.entries → length e.frames ≡ f.entries → length e.refused ≡ r.entries → V) → V
          unfolding day
          comes then = part-came r1 λ ss p1 l1. part-came r2 λ fs p2 l2. part-came r3 λ rs p3 l3.
              then (record { settings = ss; frames = fs; refused = rs }) (bind-on _ _ bytes 0 marked (bind-on _ _ bytes 1 p1 (rw l1 (bind-on _ _ bytes p.end p2 (bind-on _ _ bytes f.end p3 (done-back _ bytes r.end)))))) l1 l2 l3

          pub left_over : (r.end ≡ length bytes → ⊥) → Judges (refuse 15 r.end)
          unfolding judged verdict
          left_over h = comes λ e is l1 l2 l3. rw (is, ne_eqb r.end (length bytes) h) refl

          pub all-taken : r.end ≡ length bytes → Judges (Ok (record { settings = p.entries; frames = f.entries; refused = r.entries }))
          unfolding judged verdict
          all-taken h = comes λ e is l1 l2 l3. rw (is, eq-eqb r.end (length bytes) h, l1, l2, l3) refl
