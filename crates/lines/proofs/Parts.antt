-- Laws of a part of a list of bytes.
-- Assumes nothing.
use Rattle.std.specs.Prelude.{◌==◌, position, Some, None}
use Rattle.std.specs.List.{position_or_len}
use Rattle.std.proofs.lemmas.List.Quantifiers.{position-Some}
use mathlib.Core.Bool.{Bool, true, false, cond, not}
use mathlib.Core.Path.{◌≡◌, refl, sym, ap, ◌∙◌}
use mathlib.Core.List.{List, [], ◌∷◌, ◌++◌, append-nil}
use Prim.Native.Nat.{ℕ, zero, suc, ◌+◌, ◌-◌, ◌<◌, ◌≤◌}
use native.Mathlib.Nat.{sub-zero, sub_self, zero-add}
use native.Mathlib.Omega.{arith}
use lib.Dec.{ltb}
use borrow.Author.Tests.{eqb-true, ltb-false}
use borrow.Rule.Slice.PartMut.{mid_of, post_of, put_mid}
use lib.ListN.{length, take, drop, get_or, length-append, length-drop, drop_of_length-le}
use lib.Seq.{take-suc, get_or-drop, take-add, drop-drop, length-take-le, take_all}
use Rattle.bits.specs.Tab.{placed}
use Rattle.put.specs.Put.{Put}
use Rattle.lines.specs.Stream.{part, Clear, Ends}

-- one byte more
pub part-more : (l : List ℕ) (from i : ℕ) → from ≤ i → i < length l → part l from (i + 1) ≡ part l from i ++ (get_or l i 0 ∷ [])
part-more l from i h k =
    let n : i + 1 - from ≡ suc (i - from) = omega arith in
    let at : from + (i - from) ≡ i = omega arith in
    rw (n, take-suc (drop from l) (i - from) 0 (omega (arith, length-drop from l)), get_or-drop from l (i - from) 0, at)

-- none, and all
pub part_none : (l : List ℕ) (from : ℕ) → part l from from ≡ []
part_none l from = rw (sub_self from)

pub part-all : (l : List ℕ) (to : ℕ) → length l ≤ to → part l 0 to ≡ l
part-all l to h = rw (sub-zero to) (take_all to l h)

-- two parts, one behind the other
pub part-on : (l : List ℕ) (a b c : ℕ) → a ≤ b → b ≤ c → part l a b ++ part l b c ≡ part l a c
part-on l a b c h k =
    let n : c - a ≡ (b - a) + (c - b) = omega arith in
    let m : a + (b - a) ≡ b = omega arith in
    sym (rw (n, take-add (b - a) (c - b) (drop a l), drop-drop (b - a) a l, m))

-- what was placed at the front of the part from used on is placed in the whole
pub put-part : {used r : ℕ} {line d e : List ℕ} → used + length line ≤ length d → r ≡ length line → e ≡ placed 0 line (mid_of used (length d - used) d)
    → Put used line d (put_mid used (length d - used) d e) (used + r)
put-part {used} {r} {line} {d} {e} k n is =
    let all : mid_of used (length d - used) d ≡ drop used d = take_all (length d - used) (drop used d) (omega (arith, length-drop used d)) in
    let rest : drop (0 + length line) (drop used d) ≡ drop (used + length line) d = rw (zero-add (length line)) (drop-drop (length line) used d) in
    let none : post_of used (length d - used) d ≡ [] = drop_of_length-le (drop used d) {i = length d - used} (omega (arith, length-drop used d)) in
    let cells : e ≡ line ++ drop (used + length line) d = (rw all at is) ∙ ap (λ (l : List ℕ). line ++ l) rest in
    record {
      next = rw n;
      is = rw (none, append-nil e, cells);
      long = rw (none, append-nil e, cells, length-append (take used d) (line ++ drop (used + length line) d), length-append line (drop (used + length line) d), length-take-le used d (omega arith), length-drop (used + length line) d) (omega arith);
      within = k;
    }

-- where `position` finds a line end, and where it finds none
abbrev pub is_end : ℕ → Bool
is_end b = b == 10

not_ten : (b : ℕ) → is_end b ≡ false → b ≡ 10 → ⊥
not_ten b e q = let f : is_end 10 ≡ false = rw q at e in cc

clear-front : (l : List ℕ) (n : ℕ) → ((k : ℕ) → k < n → is_end (get_or l k 0) ≡ false) → Clear (take n l)
unfolding Clear
clear-front l zero h = tt
clear-front [] (suc n) h = tt
clear-front (b ∷ l) (suc n) h = (not_ten b (h 0 (omega arith)), clear-front l n (λ k j. h (suc k) (omega arith)))

clear-all : (l : List ℕ) → length l ≤ position_or_len is_end l → Clear l
unfolding Clear
clear-all [] h = tt
clear-all (b ∷ l) h = go (is_end b) refl (λ k. clear-all l k) h
  where
    go : (t : Bool) → is_end b ≡ t → (length l ≤ position_or_len is_end l → Clear l) → suc (length l) ≤ cond (not t) (1 + position_or_len is_end l) 0 → (b ≡ 10 → ⊥) × Clear l
    go true e rest k = absurd (omega arith)
    go false e rest k = (not_ten b e, rest (omega arith))

past_all : (l : List ℕ) → position is_end l ≡ None → length l ≤ position_or_len is_end l
past_all l e = go (ltb (position_or_len is_end l) (length l)) refl e
  where
    go : (t : Bool) → ltb (position_or_len is_end l) (length l) ≡ t → cond t (Some (position_or_len is_end l)) None ≡ None → length l ≤ position_or_len is_end l
    go true h q = cc
    go false h q = ltb-false _ _ h

rest_is : (l : List ℕ) (from : ℕ) → part l from (length l) ≡ drop from l
rest_is l from = take_all (length l - from) (drop from l) (omega (arith, length-drop from l))

pub ends-found : (l : List ℕ) (from n : ℕ) → from ≤ length l → position (λ b. b == 10) (part l from (length l)) ≡ Some n → Ends l from (from + n)
ends-found l from n h e =
    let (short, here, front) = position-Some is_end (drop from l) n 0 (rw (rest_is l from) at e) in
    let m : from + n - from ≡ n = omega arith in
    record {
      forth = omega arith;
      within = omega (arith, length-drop from l);
      clear = rw m (clear-front (drop from l) n front);
      here = λ k. rw (← get_or-drop from l n 0) (eqb-true (get_or (drop from l) n 0) 10 here);
    }

pub ends-nowhere : (l : List ℕ) (from : ℕ) → from ≤ length l → position (λ b. b == 10) (part l from (length l)) ≡ None → Ends l from (length l)
ends-nowhere l from h e =
    record {
      forth = h;
      within = omega arith;
      clear = rw (rest_is l from) (clear-all (drop from l) (past_all (drop from l) (rw (rest_is l from) at e)));
      here = λ k. absurd (omega arith);
    }
