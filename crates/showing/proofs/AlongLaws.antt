-- Laws of a walk's lines: one more entry, and lines that are written out.
-- Assumes nothing.
use mathlib.Core.Path.{◌≡◌, refl, sym, ap, ◌∙◌}
use mathlib.Core.Bool.{true, false}
use mathlib.Core.List.{List, ◌++◌, append-nil, append_assoc}
use Prim.Native.Nat.{ℕ, zero, suc, ◌<◌}
use native.Mathlib.Omega.{arith}
use lib.ListN.{length}
use Rattle.put.specs.Put.{Put}
use Rattle.put.proofs.Puts.{put-none, put_on, put_all}
use Rattle.day.specs.Script.{Judged, taken, refused}
use Rattle.day.specs.Day.{Day, kind1}
use Rattle.day.specs.Stages.{verdict}
use Rattle.day.specs.Walk.{shown, begin}
use Rattle.day.specs.declared.Taken.{Taken}
use Rattle.day.specs.declared.Place.{Place}
use Rattle.day.specs.declared.Entry.{Entry}
use Rattle.day.specs.declared.Entry.TheVariants.{Setting, Frame, Refused, End}
use Rattle.show.specs.Show.{setting_line, frame_line, refused_line, end_line, no_line, entry_line}
use Rattle.std.specs.Prelude.{Result, Ok, Err, OnOk}
use Rattle.refusal.specs.declared.Refusal.{Refusal}
use Rattle.system.specs.Calls.{Handed, Printing, Sent}
use Rattle.system.specs.declared.Unwritten.{Unwritten}
use Rattle.system.proofs.CallLaws.{printing}
use Rattle.showing.specs.Along.{is_over, line_at, onward, lines_along, place_along, Filled, Passed, Over, Told}

lines_more : (n : ℕ) (bytes : List ℕ) (p : Place) → lines_along n bytes p ++ line_at bytes (place_along n bytes p) ≡ lines_along (suc n) bytes p
unfolding lines_along place_along
lines_more zero bytes p = sym (append-nil (line_at bytes p))
lines_more (suc n) bytes p = append_assoc (line_at bytes p) _ _ ∙ ap (λ (l : List ℕ). line_at bytes p ++ l) (lines_more n bytes (onward bytes p))

place-more : (n : ℕ) (bytes : List ℕ) (p : Place) → onward bytes (place_along n bytes p) ≡ place_along (suc n) bytes p
unfolding place_along
place-more zero bytes p = refl
place-more (suc n) bytes p = place-more n bytes (onward bytes p)

-- where a walk has come from the start
abbrev pub Reached : List ℕ → Place → Type 0
Reached bytes p = (n : ℕ) × (p ≡ place_along n bytes begin)

pub reached-none : (bytes : List ℕ) (p : Place) → p ≡ begin → Reached bytes p
unfolding place_along
reached-none bytes p e = (0, e)

place-on : (m n : ℕ) (bytes : List ℕ) (p : Place) → (k : ℕ) × (place_along n bytes (place_along m bytes p) ≡ place_along k bytes p)
unfolding place_along
place-on zero n bytes p = (n, refl)
place-on (suc m) n bytes p = let (k, e) = place-on m n bytes (onward bytes p) in (suc k, e)

pub reached-more : {bytes buffer : List ℕ} {p q : Place} {sent : Sent} → Reached bytes p → Passed bytes p q buffer sent → Reached bytes q
reached-more {bytes} (m, e) w = let (k, f) = place-on m w.n bytes begin in (k, w.is ∙ ap (place_along w.n bytes) e ∙ f)

pub reached-over : (bytes : List ℕ) (p : Place) → Reached bytes p → is_over (shown kind1 bytes p) ≡ true → Over bytes
reached-over bytes p (n, e) h = record { n = n; over = rw (← e) h }

module _ {bytes : List ℕ} {from : Place} where
  -- no entry yet
  pub filled_none : (d : List ℕ) → Filled bytes from from d d 0
  unfolding lines_along place_along
  filled_none d = record { n = 0; put = put-none 0 d (omega arith); is = refl }

  -- one more
  pub filled_more : {p q : Place} {d e f : List ℕ} {used next : ℕ} → Filled bytes from p d e used → Put used (line_at bytes p) e f next → q ≡ onward bytes p → Filled bytes from q d f next
  filled_more {p = p} w t r =
      let here : p ≡ place_along w.n bytes from = w.is in
      record {
        n = suc w.n;
        put = rw (← lines_more w.n bytes from) (put_on w.put (rw here at t));
        is = r ∙ ap (onward bytes) here ∙ place-more w.n bytes from;
      }

-- an entry's line is not empty
entry-some : (e : Result Entry Refusal) (payload : List ℕ) → is_over e ≡ false → 0 < length (entry_line e payload)
unfolding entry_line setting_line frame_line refused_line
entry-some (Ok (Setting sf low next)) payload h = omega arith
entry-some (Ok (Frame setting cr flag repairs start next)) payload h = omega arith
entry-some (Ok (Refused setting number place next)) payload h = omega arith
entry-some (Ok End) payload h = cc
entry-some (Err e) payload h = cc

pub line-some : (bytes : List ℕ) (p : Place) → is_over (shown kind1 bytes p) ≡ false → 0 < length (line_at bytes p)
unfolding line_at
line-some bytes p h = entry-some (shown kind1 bytes p) _ h

-- what was put at a buffer's front is what is written out
pub put-printing : {l d e : List ℕ} {n : ℕ} {sent : Sent} → Put 0 l d e n → Handed n sent → Printing l e sent
put-printing p h = let (long, is) = put_all p in printing _ _ is long h

pub passed : {bytes d e : List ℕ} {from to : Place} {n : ℕ} {sent : Sent} → Filled bytes from to d e n → Handed n sent → Passed bytes from to e sent
passed w h = record { n = w.n; printing = put-printing w.put h; is = w.is }

pub on_ok : {P : Type 0} (sent : Sent) → P → OnOk sent P
on_ok (Ok n) p = p
on_ok (Err u) p = tt

-- what is told of a file, by its verdict
module _ {bytes buffer : List ℕ} where
  pub told-broken : (j : Judged Day) {t : Taken} (u : Unwritten) → Ok t ≡ verdict j → Told j bytes buffer (Err u)
  unfolding verdict
  told-broken (taken e) u p = record { all = λ d q. tt; refusal = λ x y q. cc }
  told-broken (refused number place) u p = cc

  pub told-whole : (j : Judged Day) {t : Taken} (sent : Sent) → Ok t ≡ verdict j → Over bytes → Printing (end_line t.frames t.refused) buffer sent → Told j bytes buffer sent
  unfolding verdict
  told-whole (taken e) {t} sent p o h = record {
    all = λ d q.
        let same : e ≡ d = cc in
        let counts : t ≡ record { settings = length e.settings; frames = length e.frames; refused = length e.refused } = cc in
        on_ok sent (o, rw (← same) (rw counts at h));
    refusal = λ x y q. cc;
  }
  told-whole (refused number place) sent p o h = cc

  pub told-refused : (j : Judged Day) {r : Refusal} {sent : Sent} → Err r ≡ verdict j → Printing (no_line r.number r.place) buffer sent → Told j bytes buffer sent
  unfolding verdict
  told-refused (taken e) p h = cc
  told-refused (refused number place) {r} p h = record {
    all = λ d q. cc;
    refusal = λ x y q.
        let first : r.number ≡ x = cc in
        let second : r.place ≡ y = cc in
        rw (first, second) at h;
  }
