-- A wish taken byte by byte: the numbers, then the payload's word.
-- Assumes nothing.
use mathlib.Core.Path.{◌≡◌, refl, sym, ◌∙◌}
use mathlib.Core.Bool.{Bool, true, false, ◌&&◌, cond, and-false}
use mathlib.Core.List.{List, [], ◌∷◌, ◌++◌, append-nil, foldl-append}
use Prim.Native.Nat.{ℕ, ◌+◌, ◌-◌, ◌*◌, ◌<◌, ◌≤◌}
use native.Mathlib.Numerals.{add-one}
use native.Mathlib.Omega.{arith}
use borrow.Author.Tests.{lt-ltb, le-ltb}
use lib.Dec.{leb, ltb, eqb}
use lib.ListN.{length, take, set, length-take, length-append}
use Rattle.std.proofs.Math.Nat.{min-le_left}
use lib.Seq.{length-take-le, take_all, take_at, take-suc-set}
use Rattle.bits.specs.Tab.{tab}
use Rattle.bits.proofs.Searches.{as_bit-le}
use Rattle.bits.proofs.Tabs.{length-tab, tab-cong}
use Rattle.capture.specs.Capture.{is_mark}
use Rattle.capture.specs.Scan as head
use Rattle.text.specs.Text.{is_separator, is_digit}
use Rattle.text.specs.Scan as text
use Rattle.wish.specs.Wish.{is_hex, hex_value}
use Rattle.wish.specs.Scan.{State, added, front, headed, worded, step, run}
use Rattle.wish.specs.declared.Word.{Word}
use Rattle.wish.specs.declared.Word.TheVariants.{Before, Hyphen, Whole, Half, Closed, Bad}

-- no byte of the payload ends where the byte of the text is no digit, or no upper digit stands open
pub added-no-low : (word : Word) (b : ℕ) → is_hex b ≡ false → added word b ≡ []
unfolding added
added-no-low Before b e = refl
added-no-low Hyphen b e = refl
added-no-low Whole b e = refl
added-no-low (Half high) b e = rw (e, and-false (ltb high 16))
added-no-low Closed b e = refl
added-no-low Bad b e = refl

pub added-high : (high b : ℕ) → 16 ≤ high → added (Half high) b ≡ []
unfolding added
added-high high b h = rw (le-ltb high 16 h)

pub added-other : (word : Word) (b : ℕ) → ((high : ℕ) → word ≡ Half high → ⊥) → added word b ≡ []
unfolding added
added-other Before b n = refl
added-other Hyphen b n = refl
added-other Whole b n = refl
added-other (Half high) b n = absurd (n high refl)
added-other Closed b n = refl
added-other Bad b n = refl

pub added-one : (high b : ℕ) → high < 16 → is_hex b ≡ true → added (Half high) b ≡ (high * 16 + hex_value b) ∷ []
unfolding added
added-one high b h e = rw (e, lt-ltb high 16 h)

length-take-short : (n m : ℕ) (bytes : List ℕ) → n ≤ m → length (take n bytes) ≤ m
length-take-short n m bytes h = rw (length-take n bytes) (omega (arith, min-le_left n (length bytes)))

-- the payload's bytes, cut at 256: none more, no place for more, one more
module _ (word : Word) (b n : ℕ) (bytes : List ℕ) where
  pub kept-none : added word b ≡ [] → n ≤ 256 → take n bytes ≡ take 256 (take n bytes ++ added word b)
  kept-none e h = sym (rw (e, append-nil (take n bytes)) (take_all 256 (take n bytes) (length-take-short n 256 bytes h)))

  pub kept-full : 256 ≤ n → n ≤ 256 → length bytes ≡ 256 → take n bytes ≡ take 256 (take n bytes ++ added word b)
  kept-full l h long = sym (take_at (take n bytes) (added word b) 256 (length-take-le n bytes (omega arith) ∙ omega arith))

pub kept_one : (high b n : ℕ) (bytes : List ℕ) {low : ℕ} → is_hex b ≡ true → low ≡ hex_value b → high < 16 → n < 256 → length bytes ≡ 256
    → take (n + 1) (set bytes n (high * 16 + low)) ≡ take 256 (take n bytes ++ added (Half high) b)
kept_one high b n bytes {low} x v h m long =
    rw (add-one n, take-suc-set bytes n (high * 16 + low) (omega arith), added-one high b h x, v)
    (sym (take_all 256 (take n bytes ++ ((high * 16 + hex_value b) ∷ [])) (rw length-append (rw (length-take-le n bytes (omega arith)) (omega arith)))))

-- one number more at most
shut-length : (t : text.State) → length (text.shut t).numbers ≤ length t.numbers + 1
unfolding text.shut text.refuse
shut-length t = go (eqb t.digits 0) (ltb (length t.numbers) 837)
  where
    go : (e f : Bool) → length (cond e t (cond f (record { refused = false; digits = 0; value = 0; numbers = t.numbers ++ (t.value ∷ []) }) (text.refuse t))).numbers
        ≤ length t.numbers + 1
    go true f = omega arith
    go false true = rw length-append (omega arith)
    go false false = omega arith

grown-length : (t : text.State) (b : ℕ) → length (text.grown t b).numbers ≡ length t.numbers
unfolding text.grown text.refuse
grown-length t b = go (ltb t.digits 5 && leb (t.value * 10 + (b - 48)) 65535)
  where
    go : (e : Bool) → length (cond e (record { refused = false; digits = t.digits + 1; value = t.value * 10 + (b - 48); numbers = t.numbers }) (text.refuse t)).numbers
        ≡ length t.numbers
    go true = refl
    go false = refl

text-length : (t : text.State) (b : ℕ) → length (text.step t b).numbers ≤ length t.numbers + 1
unfolding text.step text.refuse
text-length t b = go t.refused (is_separator b) (is_digit b)
  where
    go : (r s d : Bool) → length (cond r t (cond s (text.shut t) (cond d (text.grown t b) (text.refuse t)))).numbers ≤ length t.numbers + 1
    go true s d = omega arith
    go false true d = shut-length t
    go false false true = omega (arith, grown-length t b)
    go false false false = omega arith

-- none more where the byte is no separator
pub text-keeps : (t : text.State) (b : ℕ) → is_separator b ≡ false → length (text.step t b).numbers ≡ length t.numbers
unfolding text.step text.refuse
text-keeps t b e = rw e (go t.refused (is_digit b))
  where
    go : (r d : Bool) → length (cond r t (cond d (text.grown t b) (text.refuse t))).numbers ≡ length t.numbers
    go true d = refl
    go false true = grown-length t b
    go false false = refl

-- a byte before the payload's word, and one of it
pub step-head : (s : State) (b : ℕ) → length s.head.text.numbers < front s.head.agreed → step s b ≡ headed s b
unfolding step
step-head s b h = rw (lt-ltb (length s.head.text.numbers) (front s.head.agreed) h)

pub step-word : (s : State) (b : ℕ) → front s.head.agreed ≤ length s.head.text.numbers → step s b ≡ worded s b
unfolding step
step-word s b h = rw (le-ltb (length s.head.text.numbers) (front s.head.agreed) h)

-- a text in two pieces
pub run-append : (s : State) (xs ys : List ℕ) → run (run s xs) ys ≡ run s (xs ++ ys)
unfolding run
run-append s xs ys = sym (foldl-append step s xs ys)
