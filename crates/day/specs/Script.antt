-- Reading a file from left to right: which byte may stand next follows from the bytes before it.
-- Assumes nothing.
use Rattle.std.specs.Prelude.{Bool, true, ◌&&◌, List, [], ◌∷◌, ◌++◌, ℕ, zero, suc, ◌+◌, ltb, eqb, length, get_or}
use Rattle.bits.specs.Check.{check}

infixr 1 ◌>>=◌
-- what there is to read: nothing more, with the result; or a byte that passes the test, and what it calls for next
pub data Script (A : Type 0) : Type 0 where
  done : A → Script A
  byte : (ℕ → Bool) → (ℕ → Script A) → Script A

-- one after the other
unfoldable pub ◌>>=◌ : {A B : Type 0} → Script A → (A → Script B) → Script B
done a >>= f = f a
byte ok next >>= f = byte ok (λ b. next b >>= f)

-- one byte
unfoldable pub one : (ℕ → Bool) → Script ℕ
one ok = byte ok done

-- n results, each read in the light of those before it
unfoldable pub many : {A : Type 0} → (List A → Script A) → ℕ → List A → Script (List A)
many read zero before = done before
many read (suc n) before = read before >>= λ a. many read n (before ++ (a ∷ []))

-- a result and the place behind it; or a refusal's number and place
pub data Walked (A : Type 0) : Type 0 where
  came : A → ℕ → Walked A
  stop : ℕ → ℕ → Walked A

-- from a place on: 15 for a byte that is missing, 16 for one that fails its test, the earlier byte first
unfoldable pub walk : {A : Type 0} → Script A → List ℕ → ℕ → Walked A
walk (done a) bytes at = came a at
walk (byte ok next) bytes at =
    check (ltb at (length bytes)) (stop 15 at)
    (check (ok (get_or bytes at 0)) (stop 16 at)
    (walk (next (get_or bytes at 0)) bytes (at + 1)))

-- a whole file: what it holds, or why it is refused and where
pub data Judged (A : Type 0) : Type 0 where
  taken : A → Judged A
  refused : ℕ → ℕ → Judged A

-- 15 also for bytes left over, at the first of them
abbrev pub whole : {A : Type 0} → List ℕ → Walked A → Judged A
whole bytes (came a at) = check (eqb at (length bytes)) (refused 15 at) (taken a)
whole bytes (stop number place) = refused number place

-- how an entry is read, which may be written, and as what bytes; the entries of its section before it are known
pub record Form (A : Type 0) : Type 0 where
  pub read : List A → Script A
  pub good : List A → A → Bool
  pub put : A → List ℕ

unfoldable pub good_each : {A : Type 0} → (List A → A → Bool) → List A → List A → Bool
good_each good before [] = true
good_each good before (a ∷ rest) = good before a && good_each good (before ++ (a ∷ [])) rest

unfoldable pub put_each : {A : Type 0} → (A → List ℕ) → List A → List ℕ
put_each put [] = []
put_each put (a ∷ rest) = put a ++ put_each put rest
