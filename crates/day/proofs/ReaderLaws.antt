-- What the steps of the reader see, and what a script then does.
-- Assumes nothing.
use mathlib.Core.Path.{◌≡◌, refl, sym, ap, ◌∙◌}
use mathlib.Core.Bool.{Bool, true, false}
use mathlib.Core.List.{List, [], ◌∷◌, ◌++◌, append_assoc, append-nil}
use Prim.Native.Nat.{ℕ, zero, suc, ◌+◌, ◌*◌, ◌<◌, ◌≤◌}
use native.Mathlib.Numerals.{add-one}
use native.Mathlib.Omega.{arith}
use borrow.Author.Tests.{lt-ltb, le-leb, lt-leb, ltb-true, ltb-false}
use lib.Dec.{ltb, leb}
use lib.ListN.{length, get_or, take, drop}
use lib.Seq.{drop-cons}
use Rattle.std.specs.Prelude.{Result, Ok, Err, MatchResult}
use Rattle.std.specs.Result.{IsErrAnd}
use Rattle.bits.specs.Check.{check}
use Rattle.bits.specs.Tab.{Bytes}
use Rattle.refusal.specs.Refusal.{refuse}
use Rattle.refusal.specs.declared.Refusal.{Refusal}
use Rattle.day.specs.Script.{Script, one, many, Walked, came, stop, walk}
use Rattle.day.specs.Day.{within, is_byte, two, count, any_byte}
use Rattle.day.specs.Stages.{tested, told_by, Reads}
use Rattle.day.proofs.ScriptLaws.{both_true, true-both, bind-on, bind-stop, done-back, one_on, one_only, one-missing}

-- what the exit of a `?` hands on
pub handed : {T : Type 0} (r : Result T Refusal) {e : Refusal} → IsErrAnd r (λ d. d ≡ e) → r ≡ Err e
handed (Ok x) h = absurd h
handed (Err d) h = ap Err h

-- the same where the script stops with that refusal
pub handed_on : {A B : Type 0} (f : A → ℕ → B) (r : Result B Refusal) {e : Refusal} (w : Walked A) → IsErrAnd r (λ d. d ≡ e) → w ≡ stop e.number e.place → r ≡ told_by f w
handed_on f r w h q = handed r h ∙ rw q refl

pub handed-reads : {A : Type 0} (r : Result A Refusal) {e : Refusal} (s : Script A) (bytes : List ℕ) (at next : ℕ) → IsErrAnd r (λ d. d ≡ e) → walk s bytes at ≡ stop e.number e.place → Reads s bytes at next r
handed-reads r s bytes at next h q = rw (handed r h) q

-- a byte that was tested was read
pub tested-reads : (ok : ℕ → Bool) {fine : Bool} (bytes : List ℕ) (at : ℕ) {r : Result ℕ Refusal} → fine ≡ ok (get_or bytes at 0) → r ≡ tested fine bytes at → Reads (one ok) bytes at (at + 1) r
unfolding walk one
tested-reads ok {fine} bytes at f e = rw (e, f) (go (ltb at (length bytes)) (ok (get_or bytes at 0)))
  where
    go : (p q : Bool) → let w = check p (stop 15 at) (check q (stop 16 at) (came (get_or bytes at 0) (at + 1))) in
        MatchResult (check p (refuse 15 at) (check q (refuse 16 at) (Ok (get_or bytes at 0)))) (λ b. w ≡ came b (at + 1)) (λ d. w ≡ stop d.number d.place)
    go true true = refl
    go true false = refl
    go false q = refl

pub one-cong : (ok fine : ℕ → Bool) (bytes : List ℕ) (at : ℕ) → ok (get_or bytes at 0) ≡ fine (get_or bytes at 0) → walk (one ok) bytes at ≡ walk (one fine) bytes at
unfolding walk one
one-cong ok fine bytes at e = rw e

-- a byte is a count
count-test : (b : ℕ) → leb b 255 ≡ within 0 256 b
count-test b = go (ltb b 256) refl
  where
    go : (t : Bool) → ltb b 256 ≡ t → leb b 255 ≡ within 0 256 b
    go true e = le-leb b 255 (omega (arith, ltb-true b 256 e)) ∙ sym (rw (le-leb 0 b (omega arith)) e)
    go false e = lt-leb b 255 (omega (arith, ltb-false b 256 e)) ∙ sym (rw (le-leb 0 b (omega arith)) e)

pub count-reads : (bytes : List ℕ) (at : ℕ) → walk (count false 255) bytes at ≡ walk (one (within 0 256)) bytes at
unfolding count
count-reads bytes at = one-cong _ (within 0 256) bytes at (count-test (get_or bytes at 0))

-- the second of two bytes is free as the first is
two-test : (low b : ℕ) → low < 256 → leb (low + 256 * b) 65535 ≡ within 0 256 b
two-test low b h = go (ltb b 256) refl
  where
    go : (t : Bool) → ltb b 256 ≡ t → leb (low + 256 * b) 65535 ≡ within 0 256 b
    go true e = le-leb (low + 256 * b) 65535 (omega (arith, ltb-true b 256 e)) ∙ sym (true-both {p = leb 0 b} (le-leb 0 b (omega arith)) e)
    go false e = lt-leb (low + 256 * b) 65535 (omega (arith, ltb-false b 256 e)) ∙ sym (rw (le-leb 0 b (omega arith)) e)

module _ (bytes : List ℕ) (p : ℕ) where
  pub two-off-low : {x y : ℕ} → walk (one is_byte) bytes p ≡ stop x y → walk (two 65535) bytes p ≡ stop x y
  unfolding two
  two-off-low w = bind-stop _ _ bytes p w

  module _ {low q : ℕ} (w : walk (one is_byte) bytes p ≡ came low q) where
    high : walk (one (λ b. leb (low + 256 * b) 65535)) bytes q ≡ walk (one is_byte) bytes q
    high = one-cong _ is_byte bytes q (two-test low (get_or bytes q 0) (ltb-true low 256 (both_true (leb 0 low) (ltb low 256) (one_only is_byte bytes p low q w).0).1))

    pub two-off-high : {x y : ℕ} → walk (one is_byte) bytes q ≡ stop x y → walk (two 65535) bytes p ≡ stop x y
    unfolding two
    two-off-high v = bind-on _ _ bytes p w (bind-stop _ _ bytes q (high ∙ v))

    pub two-on : {b n : ℕ} → walk (one is_byte) bytes q ≡ came b n → walk (two 65535) bytes p ≡ came (low + 256 * b) n
    unfolding two
    two-on v = bind-on _ _ bytes p w (bind-on _ _ bytes q (high ∙ v) (done-back _ bytes _))

module _ (bytes : List ℕ) where
  -- a payload that is there, and one that is cut short
  pub payload-on : Bytes bytes → (n : ℕ) (before : List ℕ) (at : ℕ) → at + n ≤ length bytes → walk (many any_byte.read n before) bytes at ≡ came (before ++ take n (drop at bytes)) (at + n)
  unfolding many any_byte
  payload-on small zero before at h =
      let z : at + 0 ≡ at = omega arith in
      rw (z, append-nil before) (done-back before bytes at)
  payload-on small (suc n) before at h =
      let z : at + suc n ≡ at + 1 + n = omega arith in
      let here : at < length bytes = omega arith in
      let fits : is_byte (get_or bytes at 0) ≡ true = true-both {p = leb 0 (get_or bytes at 0)} (le-leb 0 (get_or bytes at 0) (omega arith)) (lt-ltb (get_or bytes at 0) 256 (small at)) in
      let split : take (suc n) (drop at bytes) ≡ get_or bytes at 0 ∷ take n (drop (at + 1) bytes) = rw (add-one at, drop-cons bytes at 0 here) in
      bind-on (one is_byte) _ bytes at (one_on is_byte bytes at here fits)
      (payload-on small n (before ++ (get_or bytes at 0 ∷ [])) (at + 1) (omega arith) ∙ rw (z, split, append_assoc before (get_or bytes at 0 ∷ []) _))

  pub payload-off : Bytes bytes → (n : ℕ) (before : List ℕ) (at : ℕ) → at ≤ length bytes → length bytes < at + n → walk (many any_byte.read n before) bytes at ≡ stop 15 (length bytes)
  unfolding many any_byte
  payload-off small zero before at h l = absurd (omega arith)
  payload-off small (suc n) before at h l = go (ltb at (length bytes)) refl (λ b g. payload-off small n b (at + 1) g (omega arith))
    where
      go : (t : Bool) → ltb at (length bytes) ≡ t → ((b : List ℕ) → at + 1 ≤ length bytes → walk (many any_byte.read n b) bytes (at + 1) ≡ stop 15 (length bytes))
          → walk (many any_byte.read (suc n) before) bytes at ≡ stop 15 (length bytes)
      go true e later =
          let here : at < length bytes = ltb-true at (length bytes) e in
          let fits : is_byte (get_or bytes at 0) ≡ true = true-both {p = leb 0 (get_or bytes at 0)} (le-leb 0 (get_or bytes at 0) (omega arith)) (lt-ltb (get_or bytes at 0) 256 (small at)) in
          bind-on (one is_byte) _ bytes at (one_on is_byte bytes at here fits) (later _ (omega arith))
      go false e later =
          let z : at ≡ length bytes = omega (arith, ltb-false at (length bytes) e) in
          bind-stop (one is_byte) _ bytes at (one-missing is_byte bytes at (omega arith) ∙ ap (stop 15) z)
