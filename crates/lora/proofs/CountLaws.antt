-- What the checks of count, airtime and code leave.
-- Assumes nothing.
use mathlib.Core.Path.{◌≡◌, refl, ap, ◌∙◌}
use mathlib.Core.Bool.{Bool, true, false, and-eq-true_iff}
use mathlib.Core.List.{List}
use Prim.Native.Nat.{ℕ, zero, suc, ◌<◌, ◌≤◌}
use native.Mathlib.Omega.{arith}
use lib.Dec.{leb, eqb}
use lib.ListN.{length}
use borrow.Author.Tests.{leb-true, eqb-true}
use Rattle.std.specs.Prelude.{Result, Ok, Err}
use Rattle.bits.specs.Check.{check}
use Rattle.layout.specs.Layout.{valid_sf, valid_cr, symbols_of}
use Rattle.layout.specs.Ranges.{Valid}
use Rattle.lora.specs.Airtime.{valid_bandwidth}
use Rattle.lora.specs.Code.{fitting, code_of}
use Rattle.lora.specs.Count.{cr_of, expected_of, header_length, frame_of, takes, count_of}
use Rattle.lora.specs.declared.Kind.{Kind}
use Rattle.lora.specs.declared.Kind.TheVariants.{Explicit, Agreed}
use Rattle.lora.specs.declared.Settings.{Settings}
use Rattle.refusal.specs.Refusal.{refuse}
use Rattle.refusal.specs.declared.Refusal.{Refusal}

-- valid settings
pub sf-valid : (sf : ℕ) → valid_sf sf ≡ true → (7 ≤ sf) × (sf ≤ 12)
unfolding valid_sf
sf-valid sf e =
    let (low, high) = (and-eq-true_iff (leb 7 sf) (leb sf 12)).0 e in
    (leb-true 7 sf low, leb-true sf 12 high)

cr-valid : (cr : ℕ) → valid_cr cr ≡ true → (1 ≤ cr) × (cr ≤ 4)
unfolding valid_cr
cr-valid cr e =
    let (low, high) = (and-eq-true_iff (leb 1 cr) (leb cr 4)).0 e in
    (leb-true 1 cr low, leb-true cr 4 high)

-- a header has at most five nibbles
header-few : (k : Kind) → header_length (expected_of k) ≤ 5
header-few (Explicit cr flag) = omega arith
header-few (Agreed agreed cr flag) = omega arith

pub valid : (s : Settings) → valid_sf s.sf ≡ true → valid_cr (cr_of s.kind) ≡ true → Valid (frame_of s)
valid s e f =
    let (a, b) = sf-valid s.sf e in
    let (c, d) = cr-valid (cr_of s.kind) f in
    record { sf-low = a; sf-high = b; cr-low = c; cr-high = d; header-high = header-few s.kind }

-- a length that a kind takes is at most 255, and is the agreed one
pub takes-short : (k : Kind) (len : ℕ) → takes k len ≡ true → len ≤ 255
unfolding takes
takes-short (Explicit cr flag) len e = leb-true len 255 e
takes-short (Agreed agreed cr flag) len e = leb-true len 255 ((and-eq-true_iff (leb len 255) (eqb len agreed)).0 e).0

pub takes-agreed : (agreed cr : ℕ) (flag : Bool) (len : ℕ) → takes (Agreed agreed cr flag) len ≡ true → len ≡ agreed
unfolding takes
takes-agreed agreed cr flag len e = eqb-true len agreed ((and-eq-true_iff (leb len 255) (eqb len agreed)).0 e).1

-- where count answers a number, the settings and the length are valid and it is the frame's
pub record Countable (s : Settings) (len count : ℕ) : Type 0 where
  pub said : count_of s len ≡ Ok count
  pub settings : Valid (frame_of s)
  pub taken : takes s.kind len ≡ true
  pub short : len ≤ 255
  pub is : count ≡ symbols_of (frame_of s) len

pub counted : (s : Settings) (len count : ℕ) → count_of s len ≡ Ok count → Countable s len count
unfolding count_of
counted s len count e = one (valid_sf s.sf) (valid_cr (cr_of s.kind)) (takes s.kind len) refl refl refl e
  where
    one : (a b c : Bool) → valid_sf s.sf ≡ a → valid_cr (cr_of s.kind) ≡ b → takes s.kind len ≡ c
        → check a (refuse 1 0) (check b (refuse 2 0) (check c (refuse 3 0) (Ok (symbols_of (frame_of s) len)))) ≡ Ok count
        → Countable s len count
    one true true true p q r f = record { said = e; settings = valid s p q; taken = r; short = takes-short s.kind len r; is = cc }
    one true true false p q r f = absurd (let z : ◌≡◌ {A = ℕ} 0 1 = cc in omega arith)
    one true false c p q r f = absurd (let z : ◌≡◌ {A = ℕ} 0 1 = cc in omega arith)
    one false b c p q r f = absurd (let z : ◌≡◌ {A = ℕ} 0 1 = cc in omega arith)

-- a valid bandwidth is not 0
pub bandwidth-positive : (khz : ℕ) → valid_bandwidth khz ≡ true → 0 < khz
unfolding valid_bandwidth
bandwidth-positive zero e = absurd (let z : ◌≡◌ {A = ℕ} 0 1 = cc in omega arith)
bandwidth-positive (suc k) e = omega arith

-- where code answers a number, it is what count answers, and the lent list has room for it
pub coded : (s : Settings) (payload : List ℕ) (room count : ℕ) → code_of s payload room ≡ Ok count → Countable s (length payload) count × (count ≤ room)
unfolding code_of
coded s payload room count e = one (count_of s (length payload)) refl e
  where
    two : (n : ℕ) (t : Bool) → leb n room ≡ t → check t (refuse 4 n) (Ok n) ≡ Ok count → (n ≡ count) × (n ≤ room)
    two n true f g = (cc, leb-true n room f)
    two n false f g = absurd (let z : ◌≡◌ {A = ℕ} 0 1 = cc in omega arith)

    one : (r : Result ℕ Refusal) → count_of s (length payload) ≡ r → fitting r room ≡ Ok count → Countable s (length payload) count × (count ≤ room)
    one (Err e) f g = absurd (let z : ◌≡◌ {A = ℕ} 0 1 = cc in omega arith)
    one (Ok n) f g =
        let (same, le) = two n (leb n room) refl g in
        (counted s (length payload) count (f ∙ ap Ok same), omega arith)
