-- A file asks for 68,089 bytes at most, so more bytes than that need not be kept to judge it.
-- Assumes nothing.
use mathlib.Core.Path.{◌≡◌, refl}
use mathlib.Core.Bool.{Bool, true, false}
use mathlib.Core.List.{List, [], ◌∷◌, ◌++◌}
use Prim.Native.Nat.{ℕ, zero, suc, ◌+◌, ◌*◌, ◌≤◌}
use native.Mathlib.Nat.{mul-le-mul_right}
use native.Mathlib.Omega.{arith}
use borrow.Author.Tests.{lt-ltb, ltb-true, leb-true, ne_eqb}
use lib.Dec.{ltb, leb, eqb}
use lib.ListN.{length, get_or, take}
use lib.Seq.{get_or-take, length-take-le}
use Rattle.bits.specs.Check.{check}
use Rattle.day.specs.Script.{Form, Script, done, byte, ◌>>=◌, one, many, Walked, came, stop, walk, whole}
use Rattle.day.specs.Day.{Setting, Frame, RefusedFrame, Day, kind1, within, is_byte, is_cr, is_flag, is_number, two, count, setting, any_byte, frame, refused_frame, section, day, judged}
use Rattle.day.proofs.ScriptLaws.{both_true}

-- a script that asks for at most n bytes and gives what P says
module _ {A : Type 0} (P : A → Type 0) where
  unfoldable pub Asks : Script A → ℕ → Type 0
  Asks (done a) n = P a
  Asks (byte ok next) zero = ⊥
  Asks (byte ok next) (suc n) = (b : ℕ) → ok b ≡ true → Asks (next b) n

  more : (s : Script A) (n m : ℕ) → Asks s n → n ≤ m → Asks s m
  unfolding Asks
  more (done a) n m p h = p
  more (byte ok next) zero m p h = absurd p
  more (byte ok next) (suc n) zero p h = absurd (omega arith)
  more (byte ok next) (suc n) (suc m) p h = λ b e. more (next b) n m (p b e) (omega arith)

module _ {A B : Type 0} (P : A → Type 0) (Q : B → Type 0) where
  then : (s : Script A) (f : A → Script B) (n m : ℕ) → Asks P s n → ((a : A) → P a → Asks Q (f a) m) → Asks Q (s >>= f) (n + m)
  unfolding Asks ◌>>=◌
  then (done a) f n m p q = more Q (f a) m (n + m) (q a p) (omega arith)
  then (byte ok next) f zero m p q = absurd p
  then (byte ok next) f (suc n) m p q = more Q (byte ok next >>= f) (suc (n + m)) (suc n + m) (λ b e. then (next b) f n m (p b e) q) (omega arith)

abbrev Any : {A : Type 0} → A → Type 0
Any a = Unit

asks-one : (ok : ℕ → Bool) → Asks (λ b. ok b ≡ true) (one ok) 1
unfolding Asks one
asks-one ok = λ b e. e

asks-many : {A : Type 0} (read : List A → Script A) (r : ℕ) → ((before : List A) → Asks Any (read before) r) → (n : ℕ) (before : List A) → Asks Any (many read n before) (n * r)
unfolding Asks many
asks-many read r each zero before = tt
asks-many read r each (suc n) before =
    more Any (many read (suc n) before) (r + n * r) (suc n * r) (then Any Any (read before) _ r (n * r) (each before) (λ a u. asks-many read r each n (before ++ (a ∷ [])))) (omega arith)

asks_two : (most : ℕ) → Asks Any (two most) 2
unfolding Asks two
asks_two most = then (λ b. is_byte b ≡ true) Any (one is_byte) _ 1 1 (asks-one is_byte) (λ low e. then (λ b. leb (low + 256 * b) most ≡ true) Any (one (λ b. leb (low + 256 * b) most)) _ 1 0 (asks-one _) (λ high f. tt))

asks-byte : (before : List ℕ) → Asks Any (any_byte.read before) 1
unfolding Asks any_byte one
asks-byte before = λ b e. tt

asks-setting : (before : List Setting) → Asks Any (setting.read before) 2
unfolding Asks setting one ◌>>=◌
asks-setting before = λ sf e low f. tt

asks-refused : (settings : ℕ) (before : List RefusedFrame) → Asks Any ((refused_frame settings).read before) 4
unfolding Asks refused_frame
asks-refused settings before =
    then _ Any (one (within 0 settings)) _ 1 3 (asks-one (within 0 settings)) (λ index e.
    then _ Any (one is_number) _ 1 2 (asks-one is_number) (λ number f.
    then Any Any (two 65535) _ 2 0 (asks_two 65535) (λ place u. tt)))

asks-frame : (settings : ℕ) (before : List Frame) → Asks Any ((frame settings).read before) 261
unfolding Asks frame
asks-frame settings before =
    then _ Any (one (within 0 settings)) _ 1 260 (asks-one (within 0 settings)) (λ index e.
    then _ Any (one is_cr) _ 1 259 (asks-one is_cr) (λ cr f.
    then _ Any (one is_flag) _ 1 258 (asks-one is_flag) (λ flag g.
    then Any Any (two 65535) _ 2 256 (asks_two 65535) (λ repairs u.
    then _ Any (one is_byte) _ 1 255 (asks-one is_byte) (λ len h.
    then Any Any (many any_byte.read len []) _ 255 0
    (more Any (many any_byte.read len []) (len * 1) 255 (asks-many any_byte.read 1 asks-byte len []) (omega (arith, ltb-true len 256 (both_true (leb 0 len) (ltb len 256) h).1))) (λ payload v. tt))))))

-- a section of at most 255 entries of at most so many bytes
asks-section : {A : Type 0} (form : Form A) (r : ℕ) → ((before : List A) → Asks Any (form.read before) r) → Asks Any (section form false 255) (1 + 255 * r)
unfolding section count
asks-section form r each = then (λ n. leb n 255 ≡ true) Any (one (λ b. leb b 255)) _ 1 (255 * r) (asks-one _) (λ n e.
    let small : n ≤ 255 = leb-true n 255 e in
    more Any (many form.read n []) (n * r) (255 * r) (asks-many form.read r each n []) (mul-le-mul_right r small))

asks-day : Asks Any (day kind1) 68089
unfolding Asks day
asks-day =
    then _ Any (one (λ b. eqb b 1)) _ 1 68088 (asks-one _) (λ mark e.
    then Any Any (section setting false 255) _ 511 67577 (asks-section setting 2 asks-setting) (λ ss u.
    then Any Any (section (frame (length ss)) false 255) _ 66556 1021 (asks-section (frame (length ss)) 261 (asks-frame (length ss))) (λ fs v.
    then Any Any (section (refused_frame (length ss)) false 255) _ 1021 0 (asks-section (refused_frame (length ss)) 4 (asks-refused (length ss))) (λ rs w. tt))))

-- what a script asks for lies before its bound
module _ {A : Type 0} (P : A → Type 0) (bytes : List ℕ) (m : ℕ) (long : m ≤ length bytes) where
  near : (s : Script A) (n at : ℕ) → Asks P s n → at + n ≤ m → walk s (take m bytes) at ≡ walk s bytes at
  unfolding Asks walk
  near (done a) n at p h = refl
  near (byte ok next) zero at p h = absurd p
  near (byte ok next) (suc n) at p h =
      let cut : length (take m bytes) ≡ m = length-take-le m bytes long in
      let same : get_or (take m bytes) at 0 ≡ get_or bytes at 0 = get_or-take m bytes at 0 (omega arith) in
      rw (cut, lt-ltb at m (omega arith), lt-ltb at (length bytes) (omega arith), same)
      (go (ok (get_or bytes at 0)) refl (λ e. near (next (get_or bytes at 0)) n (at + 1) (p (get_or bytes at 0) e) (omega arith)))
    where
      go : (t : Bool) → ok (get_or bytes at 0) ≡ t → (ok (get_or bytes at 0) ≡ true → walk (next (get_or bytes at 0)) (take m bytes) (at + 1) ≡ walk (next (get_or bytes at 0)) bytes (at + 1))
          → check t (stop 16 at) (walk (next (get_or bytes at 0)) (take m bytes) (at + 1)) ≡ check t (stop 16 at) (walk (next (get_or bytes at 0)) bytes (at + 1))
      go true e later = later e
      go false e later = refl

module _ {A : Type 0} (P : A → Type 0) (bytes : List ℕ) where
  bounded : (s : Script A) (n at : ℕ) (a : A) (next : ℕ) → Asks P s n → walk s bytes at ≡ came a next → next ≤ at + n
  unfolding Asks walk
  bounded (done x) n at a next p e = let z : at ≡ next = cc in omega arith
  bounded (byte ok then_next) zero at a next p e = absurd p
  bounded (byte ok then_next) (suc n) at a next p e =
      go (ltb at (length bytes)) (ok (get_or bytes at 0)) refl e (λ t w. bounded (then_next (get_or bytes at 0)) n (at + 1) a next (p (get_or bytes at 0) t) w)
    where
      go : (x y : Bool) → ok (get_or bytes at 0) ≡ y → check x (stop 15 at) (check y (stop 16 at) (walk (then_next (get_or bytes at 0)) bytes (at + 1))) ≡ came a next
          → (ok (get_or bytes at 0) ≡ true → walk (then_next (get_or bytes at 0)) bytes (at + 1) ≡ came a next → next ≤ at + 1 + n) → next ≤ at + suc n
      go true true t w later = omega (arith, later t w)
      go true false t w later = absurd (let z : ◌≡◌ {A = ℕ} 0 1 = cc in omega arith)
      go false y t w later = absurd (let z : ◌≡◌ {A = ℕ} 0 1 = cc in omega arith)

-- Of bytes that are more than any file has, the first 68,090 are judged as all of them.
pub first-decide : (bytes : List ℕ) → 68090 ≤ length bytes → judged kind1 (take 68090 bytes) ≡ judged kind1 bytes
unfolding judged
first-decide bytes long =
    let same : walk (day kind1) (take 68090 bytes) 0 ≡ walk (day kind1) bytes 0 = near Any bytes 68090 long (day kind1) 68089 0 asks-day (omega arith) in
    rw same (go (walk (day kind1) bytes 0) refl)
  where
    go : (w : Walked Day) → walk (day kind1) bytes 0 ≡ w → whole (take 68090 bytes) w ≡ whole bytes w
    go (came e n) p =
        let few : n ≤ 68089 = bounded Any bytes (day kind1) 68089 0 e n asks-day p in
        let cut : length (take 68090 bytes) ≡ 68090 = length-take-le 68090 bytes long in
        rw (cut, ne_eqb n 68090 (λ z. omega arith), ne_eqb n (length bytes) (λ z. omega arith))
    go (stop x y) p = refl
