-- Laws of the answer line: how it is built up, and how long it is.
-- Assumes nothing.
use mathlib.Core.Path.{◌≡◌, refl, ap, ◌∙◌}
use mathlib.Core.Bool.{Bool, true, false, cond}
use mathlib.Core.List.{List, [], ◌∷◌, ◌++◌, flat_map}
use Prim.Native.Nat.{ℕ, zero, suc, ◌+◌, ◌*◌, ◌/◌, ◌%◌, ◌^◌, ◌<◌, ◌≤◌}
use native.Mathlib.Nat.{pow-suc}
use native.Mathlib.Omega.{arith}
use borrow.Author.Tests.{lt-ltb, le-ltb, ltb-false}
use lib.Dec.{ltb}
use lib.ListN.{length, length-append}
use Rattle.std.specs.Prelude.{Ok, Err}
use Rattle.bits.specs.Bit.{as_bit}
use Rattle.lora.specs.Received.{Received}
use Rattle.lora.specs.declared.Accepted.{Accepted}
use Rattle.refusal.specs.declared.Refusal.{Refusal}
use Rattle.line.specs.Line.{decimal_in, decimal, field, hex_byte, hex, shown, line_of}

-- the digits of a number in at most k + 1 are those in at most k + 2, where they suffice
enough : (k n : ℕ) → n < 10 ^ suc k → decimal_in (suc k) n ≡ decimal_in (suc (suc k)) n
unfolding decimal_in
enough zero n h = rw (lt-ltb n 10 h)
enough (suc k) n h = go (ltb n 10) refl (λ l. enough k (n / 10) (omega (arith, rw pow-suc at h)))
  where
    go : (b : Bool) → ltb n 10 ≡ b → (10 ≤ n → decimal_in (suc k) (n / 10) ≡ decimal_in (suc (suc k)) (n / 10))
        → cond b ((48 + n) ∷ []) (decimal_in (suc k) (n / 10) ++ ((48 + n % 10) ∷ [])) ≡ cond b ((48 + n) ∷ []) (decimal_in (suc (suc k)) (n / 10) ++ ((48 + n % 10) ∷ []))
    go true e later = refl
    go false e later = ap (λ (l : List ℕ). l ++ ((48 + n % 10) ∷ [])) (later (ltb-false n 10 e))

one_more : (k n : ℕ) → decimal_in (suc k) n ≡ cond (ltb n 10) ((48 + n) ∷ []) (decimal_in k (n / 10) ++ ((48 + n % 10) ∷ []))
unfolding decimal_in
one_more k n = refl

-- a number below 10 is one digit
pub decimal-one : (n : ℕ) → n < 10 → decimal n ≡ (48 + n) ∷ []
unfolding decimal
decimal-one n h = one_more 19 n ∙ rw (lt-ltb n 10 h)

-- any other number of 64 bits is the digits of its tenth, and its last digit
pub decimal-more : (n : ℕ) → 10 ≤ n → n < 2 ^ 64 → decimal n ≡ decimal (n / 10) ++ ((48 + n % 10) ∷ [])
unfolding decimal
decimal-more n h l = one_more 19 n ∙ rw (le-ltb n 10 h, enough 18 (n / 10) (omega arith))

pub decimal-one-length : (n : ℕ) → n < 10 → length (decimal n) ≡ 1
decimal-one-length n h = ap length (decimal-one n h)

pub decimal-more-length : (n : ℕ) → 10 ≤ n → n < 2 ^ 64 → length (decimal n) ≡ length (decimal (n / 10)) + 1
decimal-more-length n h l = ap length (decimal-more n h l) ∙ length-append (decimal (n / 10)) ((48 + n % 10) ∷ [])

-- a number has at most as many digits as it is given
decimal_in-length : (k n : ℕ) → length (decimal_in k n) ≤ k
unfolding decimal_in
decimal_in-length zero n = omega arith
decimal_in-length (suc k) n = go (ltb n 10) (decimal_in-length k (n / 10))
  where
    go : (b : Bool) → length (decimal_in k (n / 10)) ≤ k → length (cond b ((48 + n) ∷ []) (decimal_in k (n / 10) ++ ((48 + n % 10) ∷ []))) ≤ suc k
    go true h = omega arith
    go false h = rw length-append (omega arith)

pub decimal-length : (n : ℕ) → length (decimal n) ≤ 20
unfolding decimal
decimal-length n = decimal_in-length 20 n

field-length : (n : ℕ) → length (field n) ≤ 21
unfolding field
field-length n = omega (arith, decimal-length n)

-- two digits a byte
pub hex-length : (l : List ℕ) → length (hex l) ≡ 2 * length l
unfolding flat_map hex_byte
hex-length [] = refl
hex-length (b ∷ l) = omega (arith, hex-length l)

pub shown-empty : (l : List ℕ) → length l ≡ 0 → shown l ≡ 45 ∷ []
unfolding shown
shown-empty [] e = refl
shown-empty (b ∷ l) e = absurd (omega arith)

pub shown-hex : (l : List ℕ) → (length l ≡ 0 → ⊥) → shown l ≡ hex l
unfolding shown
shown-hex [] e = absurd (e refl)
shown-hex (b ∷ l) e = refl

shown-length : (l : List ℕ) → length (shown l) ≤ 2 * length l + 1
unfolding shown
shown-length [] = omega arith
shown-length (b ∷ l) = omega (arith, hex-length (b ∷ l))

-- a line of a payload of at most 255 bytes
pub line-length : (a : Received) (payload : List ℕ) → length payload ≤ 255 → length (line_of a payload) ≤ 640
unfolding line_of
line-length (Ok a) payload h =
    simp length-append
    (omega (
      arith,
      field-length a.length,
      field-length a.cr,
      field-length (as_bit a.checked),
      field-length a.symbols,
      field-length a.repairs,
      shown-length payload,
    ))
line-length (Err e) payload h = simp length-append (omega (arith, field-length e.number, field-length e.place))

-- the line of an answer that is known
pub payload-line : {r : Received} {a : Accepted} {x y : ℕ} (payload : List ℕ) → r ≡ Ok a → x ≡ a.cr → y ≡ as_bit a.checked
    → line_of r payload
    ≡ (111 ∷ 107 ∷ []) ++ (field a.length ++ (field x ++ (field y ++ (field a.symbols ++ (field a.repairs ++ ((32 ∷ shown payload) ++ (10 ∷ [])))))))
unfolding line_of
payload-line payload e p q = rw (e, p, q)

pub refused-line : {r : Received} {e : Refusal} {x : ℕ} (payload : List ℕ) → r ≡ Err e → x ≡ e.number
    → line_of r payload ≡ (110 ∷ 111 ∷ []) ++ (field x ++ (field e.place ++ (10 ∷ [])))
unfolding line_of
refused-line payload is p = rw (is, p)
