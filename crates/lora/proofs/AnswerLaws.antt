-- What an answer of read tells of its call.
-- Assumes nothing.
use mathlib.Core.Path.{◌≡◌, refl, sym}
use mathlib.Core.Bool.{Bool, true, false}
use mathlib.Core.List.{List}
use Prim.Native.Nat.{ℕ, ◌^◌, ◌<◌, ◌≤◌}
use native.Mathlib.Omega.{arith}
use lib.Dec.{leb}
use lib.ListN.{length, get_or}
use borrow.Author.Tests.{leb-true, leb-false, lt-leb, le-leb}
use Rattle.std.specs.Prelude.{Result, Ok, Err}
use Rattle.bits.specs.Check.{check}
use Rattle.layout.specs.Layout.{valid_sf, valid_cr, nibbles_of, symbols_of}
use Rattle.layout.specs.Ranges.{Valid}
use Rattle.layout.specs.declared.Frame.{Frame}
use Rattle.lora.specs.Count.{frame_of, count_of}
use Rattle.lora.specs.Head.{head_of}
use Rattle.lora.specs.Read.{over_in_frame, unreadable_in_data, sum_holds, accepted_of, body_of, frame_said, onward, agreed_on, read_of, bytes_after, hurts_after}
use Rattle.lora.specs.Received.{Received}
use Rattle.lora.specs.Stages.{bytes_read, hurts_read}
use Rattle.lora.specs.declared.Accepted.{Accepted}
use Rattle.header.specs.declared.Header.{Header}
use Rattle.lora.specs.declared.Expected.{Expected}
use Rattle.lora.specs.declared.Expected.TheVariants.{Explicit, Agreed}
use Rattle.lora.specs.declared.Kind.TheVariants as kind
use Rattle.lora.specs.declared.Settings.{Settings}
use Rattle.refusal.specs.Refusal.{refuse}
use Rattle.refusal.specs.declared.Refusal.{Refusal}
use Rattle.lora.proofs.CountLaws.{counted}
use Rattle.lora.proofs.HeadLaws.{head-sound}
use Rattle.lora.proofs.ReadLaws.{all-below, said_valid}

-- how length, code rate and checksum flag are known: head says them, or they were agreed
abbrev pub Known : Expected → ℕ → List ℕ → Accepted → Type 0
Known Explicit sf symbols a = head_of sf symbols ≡ Ok (record { length = a.length; cr = a.cr; checked = a.checked })
Known (Agreed len cr flag) sf symbols a = (a.length ≡ len) × (a.cr ≡ cr) × (a.checked ≡ flag)

-- where read accepts: the payload has room and so have the marks, the frame is valid and below 2^SF, and what is answered is what the
-- frame's symbols say
pub record Accepts (sf : ℕ) (low : Bool) (expected : Expected) (symbols : List ℕ) (room marks : ℕ) (a : Accepted) : Type 0 where
  pub known : Known expected sf symbols a
  pub fits : a.length ≤ room
  pub lists : a.symbols ≤ marks
  pub valid : Valid (frame_said sf low expected a.cr a.checked)
  pub short : a.length ≤ 255
  pub below : (t : ℕ) → t < a.symbols → get_or symbols t 0 < 2 ^ sf
  pub is : a ≡ accepted_of (frame_said sf low expected a.cr a.checked) symbols a.length

-- what is answered of a frame whose shape and length are known, by the checks
pub body-cases : (F : Frame) (symbols : List ℕ) (room marks len : ℕ) (P : Received → Type 0) → P (refuse 4 len) → P (refuse 4 (symbols_of F len))
    → P (refuse 5 (symbols_of F len)) → P (refuse 6 (over_in_frame F symbols len))
    → (unreadable_in_data F symbols len < nibbles_of F len → P (refuse 7 (unreadable_in_data F symbols len)))
    → P (refuse 12 0)
    → (len ≤ room → symbols_of F len ≤ marks → symbols_of F len ≤ over_in_frame F symbols len → P (Ok (accepted_of F symbols len)))
    → P (body_of F symbols room marks len)
unfolding body_of
body-cases F symbols room marks len P four lists five six seven twelve payload =
    by (leb len room) (leb (symbols_of F len) marks) (leb (symbols_of F len) (length symbols)) (leb (symbols_of F len) (over_in_frame F symbols len))
    (leb (nibbles_of F len) (unreadable_in_data F symbols len)) (sum_holds F symbols len) refl refl refl refl
  where
    by : (t s u v w x : Bool) → leb len room ≡ t → leb (symbols_of F len) marks ≡ s → leb (symbols_of F len) (over_in_frame F symbols len) ≡ v → leb (nibbles_of F len) (unreadable_in_data F symbols len) ≡ w
        → P (check t (refuse 4 len) (check s (refuse 4 (symbols_of F len)) (check u (refuse 5 (symbols_of F len)) (check v (refuse 6 (over_in_frame F symbols len))
        (check w (refuse 7 (unreadable_in_data F symbols len)) (check x (refuse 12 0) (Ok (accepted_of F symbols len))))))))
    by true true true true true true p o n q =
        payload (leb-true len room p) (leb-true (symbols_of F len) marks o) (leb-true (symbols_of F len) (over_in_frame F symbols len) n)
    by true true true true true false p o n q = twelve
    by true true true true false x p o n q = seven (leb-false (nibbles_of F len) (unreadable_in_data F symbols len) q)
    by true true true false w x p o n q = six
    by true true false v w x p o n q = five
    by true false u v w x p o n q = lists
    by false s u v w x p o n q = four

-- where such a frame is accepted
record BodyAccepts (F : Frame) (symbols : List ℕ) (room marks len : ℕ) (a : Accepted) : Type 0 where
  same : accepted_of F symbols len ≡ a
  fits : len ≤ room
  lists : symbols_of F len ≤ marks
  below : (t : ℕ) → t < symbols_of F len → get_or symbols t 0 < 2 ^ F.sf

body-accepts : (F : Frame) (symbols : List ℕ) (room marks len : ℕ) (a : Accepted) → body_of F symbols room marks len ≡ Ok a
    → BodyAccepts F symbols room marks len a
body-accepts F symbols room marks len a =
    body-cases F symbols room marks len (λ r. r ≡ Ok a → BodyAccepts F symbols room marks len a) other other other other
    (λ l. other) other (λ fits lists over e. record { same = cc; fits = fits; lists = lists; below = all-below F symbols len over })
  where
    other : {refusal : Refusal} → Err refusal ≡ Ok a → BodyAccepts F symbols room marks len a
    other e = absurd (let z : ◌≡◌ {A = ℕ} 0 1 = cc in omega arith)

explicit-accepts : (sf : ℕ) (low : Bool) (symbols : List ℕ) (room marks : ℕ) (a : Accepted) → read_of sf low Explicit symbols room marks ≡ Ok a
    → Accepts sf low Explicit symbols room marks a
unfolding read_of accepted_of
explicit-accepts sf low symbols room marks a e = one (head_of sf symbols) refl e
  where
    one : (h : Result Header Refusal) → head_of sf symbols ≡ h → onward h sf low symbols room marks ≡ Ok a → Accepts sf low Explicit symbols room marks a
    one (Err refusal) f g = absurd (let z : ◌≡◌ {A = ℕ} 0 1 = cc in omega arith)
    one (Ok h) f g =
        let b = body-accepts (frame_said sf low Explicit h.cr h.checked) symbols room marks h.length a g in
        let k = head-sound sf symbols h f in
        rw (← b.same) (record {
          known = f;
          fits = b.fits;
          lists = b.lists;
          valid = said_valid sf low h k;
          short = k.short;
          below = b.below;
          is = refl;
        })

agreed-accepts : (sf : ℕ) (low : Bool) (len cr : ℕ) (flag : Bool) (symbols : List ℕ) (room marks : ℕ) (a : Accepted)
    → read_of sf low (Agreed len cr flag) symbols room marks ≡ Ok a → Accepts sf low (Agreed len cr flag) symbols room marks a
unfolding read_of accepted_of
agreed-accepts sf low len cr flag symbols room marks a e = one (count_of s len) refl e
  where
    s : Settings
    s = record { sf = sf; low = low; kind = kind.Agreed len cr flag }

    one : (n : Result ℕ Refusal) → count_of s len ≡ n → agreed_on n (frame_of s) len symbols room marks ≡ Ok a → Accepts sf low (Agreed len cr flag) symbols room marks a
    one (Err refusal) f g = absurd (let z : ◌≡◌ {A = ℕ} 0 1 = cc in omega arith)
    one (Ok n) f g =
        let b = body-accepts (frame_of s) symbols room marks len a g in
        let k = counted s len n f in
        rw (← b.same) (record {
          known = (refl, refl, refl);
          fits = b.fits;
          lists = b.lists;
          valid = k.settings;
          short = k.short;
          below = b.below;
          is = refl;
        })

pub accepts : (sf : ℕ) (low : Bool) (expected : Expected) (symbols : List ℕ) (room marks : ℕ) (a : Accepted)
    → read_of sf low expected symbols room marks ≡ Ok a → Accepts sf low expected symbols room marks a
accepts sf low Explicit symbols room marks a e = explicit-accepts sf low symbols room marks a e
accepts sf low (Agreed len cr flag) symbols room marks a e = agreed-accepts sf low len cr flag symbols room marks a e

-- the payload's bytes and the symbols' marks, by what is answered
module _ (sf : ℕ) (low : Bool) (expected : Expected) (cr : ℕ) (flag : Bool) (symbols : List ℕ) (room marks len : ℕ) (old : List ℕ) where
  pub bytes-said : (r : Received) → r ≡ body_of (frame_said sf low expected cr flag) symbols room marks len
      → bytes_read r (frame_said sf low expected cr flag) symbols len old ≡ bytes_after r sf low expected symbols old
  unfolding accepted_of
  bytes-said (Err refusal) e = refl
  bytes-said (Ok a) e = rw (← (body-accepts (frame_said sf low expected cr flag) symbols room marks len a (sym e)).same)

  pub hurts-said : (r : Received) → r ≡ body_of (frame_said sf low expected cr flag) symbols room marks len
      → hurts_read r (frame_said sf low expected cr flag) symbols len old ≡ hurts_after r sf low expected symbols old
  unfolding accepted_of
  hurts-said (Err refusal) e = refl
  hurts-said (Ok a) e = rw (← (body-accepts (frame_said sf low expected cr flag) symbols room marks len a (sym e)).same)

-- a spreading factor above 12 is refused with 1
pub sf-refused : (sf : ℕ) (low : Bool) (expected : Expected) (symbols : List ℕ) (room marks : ℕ) → 12 < sf → read_of sf low expected symbols room marks ≡ refuse 1 0
unfolding read_of head_of count_of valid_sf
sf-refused sf low Explicit symbols room marks h = rw (le-leb 7 sf (omega arith), lt-leb sf 12 h)
sf-refused sf low (Agreed len cr flag) symbols room marks h = rw (le-leb 7 sf (omega arith), lt-leb sf 12 h)

-- and an agreed code rate above 4 with 1 or 2
pub cr-refused : (sf : ℕ) (low : Bool) (len cr : ℕ) (flag : Bool) (symbols : List ℕ) (room marks : ℕ) → 4 < cr
    → read_of sf low (Agreed len cr flag) symbols room marks ≡ check (valid_sf sf) (refuse 1 0) (refuse 2 0)
unfolding read_of count_of valid_cr
cr-refused sf low len cr flag symbols room marks h = rw (le-leb 1 cr (omega arith), lt-leb cr 4 h) (by (valid_sf sf))
  where
    by : (t : Bool) → agreed_on (check t (refuse 1 0) (refuse 2 0)) (frame_of (record { sf = sf; low = low; kind = kind.Agreed len cr flag })) len symbols room marks
        ≡ check t (refuse 1 0) (refuse 2 0)
    by true = refl
    by false = refl
