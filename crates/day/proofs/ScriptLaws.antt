-- Laws of scripts: what was walked over stands in the file, and what stands in the file is walked over.
-- Assumes nothing.
use mathlib.Core.Path.{◌≡◌, refl, sym, ap, ◌∙◌}
use mathlib.Core.Bool.{Bool, true, false, ◌&&◌}
use mathlib.Core.List.{List, [], ◌∷◌, ◌++◌, append_assoc, append-nil}
use Prim.Native.Nat.{ℕ, zero, suc, ◌+◌, ◌<◌, ◌≤◌}
use native.Mathlib.Numerals.{add-one}
use native.Mathlib.Omega.{arith}
use borrow.Author.Tests.{lt-ltb, le-ltb, ltb-true}
use lib.Dec.{ltb}
use lib.ListN.{length, get_or, drop, length-append, length-drop}
use lib.Seq.{drop-cons, drop-drop, drop_at}
use Rattle.bits.specs.Check.{check}
pub use Rattle.bits.proofs.Truth.{both_true}
use Rattle.day.specs.Script.{Script, done, byte, ◌>>=◌, one, many, Walked, came, stop, walk, Form, good_each, put_each}

pub true-both : {p q : Bool} → p ≡ true → q ≡ true → p && q ≡ true
true-both {p} {q} e f = rw (e, f)

-- the bytes l stand in the file from the place at to the place next
pub record Stands (l bytes : List ℕ) (at next : ℕ) : Type 0 where
  pub is : drop at bytes ≡ l ++ drop next bytes
  pub long : next ≡ at + length l

module _ (bytes : List ℕ) where
  pub stands-none : (at : ℕ) → Stands [] bytes at at
  stands-none at = record { is = refl; long = omega arith }

  pub stands-append : {l m : List ℕ} {at mid next : ℕ} → Stands l bytes at mid → Stands m bytes mid next → Stands (l ++ m) bytes at next
  stands-append {l} {m} p q = record { is = p.is ∙ ap (l ++◌) q.is ∙ sym (append_assoc l m _); long = rw length-append (omega arith) }

  pub stands-split : (l m : List ℕ) (at next : ℕ) → Stands (l ++ m) bytes at next → Stands l bytes at (at + length l) × Stands m bytes (at + length l) next
  stands-split l m at next p =
      let whole : drop at bytes ≡ l ++ (m ++ drop next bytes) = p.is ∙ append_assoc l m _ in
      let rest : drop (at + length l) bytes ≡ m ++ drop next bytes = sym (drop-drop (length l) at bytes) ∙ ap (drop (length l)) whole ∙ drop_at l _ (length l) refl in
      (record { is = rw rest whole; long = refl }, record { is = rest; long = p.long ∙ rw length-append (omega arith) })

  pub stands_here : (b at : ℕ) (l : List ℕ) → drop at bytes ≡ b ∷ l → (at < length bytes) × (get_or bytes at 0 ≡ b)
  stands_here b at l e =
      let h : at < length bytes = omega (arith, simp length-drop at (ap length e)) in
      (h, head _ _ _ _ (sym (drop-cons bytes at 0 h) ∙ e))
    where
      head : (x y : ℕ) (xs ys : List ℕ) → x ∷ xs ≡ y ∷ ys → x ≡ y
      head x y xs ys q = cc

  pub stands-byte : (at : ℕ) → at < length bytes → Stands (get_or bytes at 0 ∷ []) bytes at (at + 1)
  stands-byte at h = record { is = rw add-one (drop-cons bytes at 0 h); long = refl }

-- what comes after a walk
abbrev pub onto : {A B : Type 0} → Walked A → (A → ℕ → Walked B) → Walked B
onto (came a n) f = f a n
onto (stop x y) f = stop x y

module _ {A B : Type 0} where
  check-onto : (t : Bool) (x y : ℕ) (w : Walked A) (f : A → ℕ → Walked B) → check t (stop x y) (onto w f) ≡ onto (check t (stop x y) w) f
  check-onto true x y w f = refl
  check-onto false x y w f = refl

  pub walk-bind : (s : Script A) (f : A → Script B) (bytes : List ℕ) (at : ℕ) → walk (s >>= f) bytes at ≡ onto (walk s bytes at) (λ a n. walk (f a) bytes n)
  unfolding walk ◌>>=◌
  walk-bind (done a) f bytes at = refl
  walk-bind (byte ok next) f bytes at =
      rw (walk-bind (next (get_or bytes at 0)) f bytes (at + 1))
      (ap (check (ltb at (length bytes)) (stop 15 at)) (check-onto (ok (get_or bytes at 0)) 16 at _ _) ∙ check-onto (ltb at (length bytes)) 15 at _ _)

  -- it comes to the middle and goes on from there; or it stops
  pub bind-on : (s : Script A) (f : A → Script B) (bytes : List ℕ) (at : ℕ) {a : A} {mid : ℕ} {r : Walked B} → walk s bytes at ≡ came a mid → walk (f a) bytes mid ≡ r → walk (s >>= f) bytes at ≡ r
  bind-on s f bytes at e q = walk-bind s f bytes at ∙ rw e q

  pub bind-stop : (s : Script A) (f : A → Script B) (bytes : List ℕ) (at : ℕ) {x y : ℕ} → walk s bytes at ≡ stop x y → walk (s >>= f) bytes at ≡ stop x y
  bind-stop s f bytes at e = walk-bind s f bytes at ∙ rw e

  pub bind-only : (s : Script A) (f : A → Script B) (bytes : List ℕ) (at : ℕ) (c : B) (n : ℕ) → walk (s >>= f) bytes at ≡ came c n
      → {R : Type 0} → ((a : A) (mid : ℕ) → walk s bytes at ≡ came a mid → walk (f a) bytes mid ≡ came c n → R) → R
  bind-only s f bytes at c n e {R} then = go (walk s bytes at) refl (sym (walk-bind s f bytes at) ∙ e)
    where
      go : (w : Walked A) → walk s bytes at ≡ w → onto w (λ a m. walk (f a) bytes m) ≡ came c n → R
      go (came a m) p q = then a m p q
      go (stop x y) p q = absurd (let z : ◌≡◌ {A = ℕ} 0 1 = cc in omega arith)

module _ {A : Type 0} where
  pub done-only : (a c : A) (bytes : List ℕ) (at n : ℕ) → walk (done a) bytes at ≡ came c n → (c ≡ a) × (n ≡ at)
  unfolding walk
  done-only a c bytes at n e = (cc, cc)

  pub done-back : (a : A) (bytes : List ℕ) (at : ℕ) → walk (done a) bytes at ≡ came a at
  unfolding walk
  done-back a bytes at = refl

-- one byte
pub one_on : (ok : ℕ → Bool) (bytes : List ℕ) (at : ℕ) → at < length bytes → ok (get_or bytes at 0) ≡ true → walk (one ok) bytes at ≡ came (get_or bytes at 0) (at + 1)
unfolding walk one
one_on ok bytes at h e = rw (lt-ltb at (length bytes) h, e)

pub one-missing : (ok : ℕ → Bool) (bytes : List ℕ) (at : ℕ) → length bytes ≤ at → walk (one ok) bytes at ≡ stop 15 at
unfolding walk one
one-missing ok bytes at h = rw (le-ltb at (length bytes) h)

pub one_outside : (ok : ℕ → Bool) (bytes : List ℕ) (at : ℕ) → at < length bytes → ok (get_or bytes at 0) ≡ false → walk (one ok) bytes at ≡ stop 16 at
unfolding walk one
one_outside ok bytes at h e = rw (lt-ltb at (length bytes) h, e)

pub one_only : (ok : ℕ → Bool) (bytes : List ℕ) (at b n : ℕ) → walk (one ok) bytes at ≡ came b n → (ok b ≡ true) × Stands (b ∷ []) bytes at n
unfolding walk one
one_only ok bytes at b n e = go (ltb at (length bytes)) (ok (get_or bytes at 0)) refl refl e
  where
    go : (p q : Bool) → ltb at (length bytes) ≡ p → ok (get_or bytes at 0) ≡ q
        → check p (stop 15 at) (check q (stop 16 at) (came (get_or bytes at 0) (at + 1))) ≡ came b n → (ok b ≡ true) × Stands (b ∷ []) bytes at n
    go true true h t w =
        let v : get_or bytes at 0 ≡ b = cc in
        let m : at + 1 ≡ n = cc in
        (rw (← v) t, rw (← v, ← m) (stands-byte bytes at (ltb-true _ _ h)))
    go true false h t w = absurd (let z : ◌≡◌ {A = ℕ} 0 1 = cc in omega arith)
    go false q h t w = absurd (let z : ◌≡◌ {A = ℕ} 0 1 = cc in omega arith)

pub one-back : (ok : ℕ → Bool) (bytes : List ℕ) (at b n : ℕ) → ok b ≡ true → Stands (b ∷ []) bytes at n → walk (one ok) bytes at ≡ came b n
one-back ok bytes at b n t p =
    let (h, v) = stands_here bytes b at (drop n bytes) p.is in
    let m : n ≡ at + 1 = p.long in
    rw (← v, m) (one_on ok bytes at h (rw v t))

-- a byte and what follows it
module _ {B : Type 0} (ok : ℕ → Bool) (f : ℕ → Script B) (bytes : List ℕ) (at : ℕ) where
  pub byte-only : (c : B) (n : ℕ) → walk (one ok >>= f) bytes at ≡ came c n
      → {R : Type 0} → ((b mid : ℕ) → ok b ≡ true → Stands (b ∷ []) bytes at mid → walk (f b) bytes mid ≡ came c n → R) → R
  byte-only c n e then = bind-only (one ok) f bytes at c n e λ b mid p q.
      let (t, s) = one_only ok bytes at b mid p in
      then b mid t s q

  pub byte-back : (b : ℕ) (l : List ℕ) (n : ℕ) {r : Walked B} → ok b ≡ true → Stands (b ∷ l) bytes at n → (Stands l bytes (at + 1) n → walk (f b) bytes (at + 1) ≡ r) → walk (one ok >>= f) bytes at ≡ r
  byte-back b l n t s k =
      let (here, rest) = stands-split bytes (b ∷ []) l at n s in
      bind-on (one ok) f bytes at (one-back ok bytes at b (at + 1) t here) (k rest)

-- a script reads exactly the good values, each from the bytes as which it is written
pub record Spells {A : Type 0} (s : Script A) (good : A → Bool) (put : A → List ℕ) : Type 0 where
  pub only : (bytes : List ℕ) (at : ℕ) (a : A) (next : ℕ) → walk s bytes at ≡ came a next → (good a ≡ true) × Stands (put a) bytes at next
  pub back : (bytes : List ℕ) (at : ℕ) (a : A) (next : ℕ) → good a ≡ true → Stands (put a) bytes at next → walk s bytes at ≡ came a next

abbrev pub Lawful : {A : Type 0} → Form A → Type 0
Lawful {A} form = (before : List A) → Spells (form.read before) (form.good before) form.put

module _ {A : Type 0} (form : Form A) (lawful : Lawful form) where
  pub many-only : (n : ℕ) (before : List A) (bytes : List ℕ) (at : ℕ) (all : List A) (next : ℕ) → walk (many form.read n before) bytes at ≡ came all next
      → {R : Type 0} → ((l : List A) → all ≡ before ++ l → length l ≡ n → good_each form.good before l ≡ true → Stands (put_each form.put l) bytes at next → R) → R
  unfolding many good_each put_each
  many-only zero before bytes at all next e then =
      let (p, q) = done-only before all bytes at next e in
      then [] (p ∙ sym (append-nil before)) refl refl (rw q (stands-none bytes at))
  many-only (suc n) before bytes at all next e then =
      bind-only (form.read before) (λ x. many form.read n (before ++ (x ∷ []))) bytes at all next e λ a mid p q.
      let (g, s) = (lawful before).only bytes at a mid p in
      many-only n (before ++ (a ∷ [])) bytes mid all next q λ l is long goods stands.
      then (a ∷ l) (is ∙ append_assoc before (a ∷ []) l) (ap suc long) (true-both g goods) (stands-append bytes s stands)

  pub many-back : (l before : List A) (bytes : List ℕ) (at next : ℕ) → good_each form.good before l ≡ true → Stands (put_each form.put l) bytes at next
      → walk (many form.read (length l) before) bytes at ≡ came (before ++ l) next
  unfolding many good_each put_each
  many-back [] before bytes at next g s =
      let z : next ≡ at = s.long ∙ omega arith in
      rw (z, append-nil before) (done-back before bytes at)
  many-back (a ∷ l) before bytes at next g s =
      let (g0, gs) = both_true _ _ g in
      let (here, rest) = stands-split bytes (form.put a) (put_each form.put l) at next s in
      bind-on (form.read before) _ bytes at ((lawful before).back bytes at a _ g0 here)
      (rw (← append_assoc before (a ∷ []) l) (many-back l (before ++ (a ∷ [])) bytes _ next gs rest))
