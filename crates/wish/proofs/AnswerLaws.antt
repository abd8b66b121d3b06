-- From a wish's text to its line.
-- Assumes nothing.
use mathlib.Core.Path.{◌≡◌, refl, sym, ap, ◌∙◌}
use mathlib.Core.Bool.{Bool, true, false, ◌&&◌, cond, and-false}
use mathlib.Core.List.{List, [], ◌∷◌, ◌++◌}
use Prim.Native.Nat.{ℕ, ◌+◌, ◌<◌, ◌≤◌}
use native.Mathlib.Omega.{arith}
use borrow.Author.Tests.{eq-eqb, ne_eqb, lt-leb, le-leb, eqb-true, leb-true, leb-false}
use lib.Dec.{leb, eqb}
use lib.ListN.{length, get_or, take, drop}
use lib.Seq.{take_all, take_at, get_or-take, get_or-drop, length-take-le}
use Rattle.bits.specs.Bit.{is_set, as_bit}
use Rattle.bits.specs.Check.{check}
use Rattle.bits.specs.Tab.{tab, blank}
use Rattle.bits.proofs.Truth.{check-cond}
use Rattle.bits.proofs.Tabs.{length-tab, length-blank}
use Rattle.layout.specs.Layout.{valid_sf, valid_cr}
use Rattle.line.specs.Line.{decimal, field}
use Rattle.lora.specs.Code.{code_of, sent_symbol, symbols_after, Coding}
use Rattle.lora.specs.Count.{cr_of, frame_of, takes, count_of}
use Rattle.refusal.specs.Refusal.{refuse}
use Rattle.refusal.specs.declared.Refusal.{Refusal}
use Rattle.std.proofs.Common.{Option, Some, None, Result, Ok, Err}
use Rattle.lora.specs.declared.Kind.{Kind}
use Rattle.lora.specs.declared.Kind.TheVariants.{Explicit, Agreed}
use Rattle.lora.specs.declared.Settings.{Settings}
use Rattle.lora.proofs.CountLaws.{coded}
use Rattle.text.specs.Answer.{narrowed}
use Rattle.wish.specs.Answer.{narrow_kind, narrow, settings_in_front, settings_taken, sent_line, Fitted}
use Rattle.wish.specs.Scan.{State, start, run, front, flags_in, settings_in, said, taken, complete, line_at, outcome_at}
use Rattle.wish.specs.Wish.{Wish, bad, wish, settings_of, flags_hold, wish_in, fields, front_of, frame_line, line_for, outcome_for, answer_to, outcome_to, answer_of, outcome_is}
use Rattle.wish.proofs.WishLaws.{cut, scanned}

-- two wishes that are answered alike
pub record Same (v w : Wish) : Type 0 where
  pub line : answer_to v ≡ answer_to w
  pub outcome : outcome_to v ≡ outcome_to w

refused-same : {s t : Settings} {p q : List ℕ} {number place : ℕ} → code_of s p 832 ≡ refuse number place → code_of t q 832 ≡ refuse number place → Same (wish s p) (wish t q)
refused-same e f = record { line = rw (e, f); outcome = rw (e, f) }

-- no kind takes more than 255 bytes
too_long : (k : Kind) (len : ℕ) → 255 < len → takes k len ≡ false
unfolding takes
too_long (Explicit cr flag) len h = lt-leb len 255 h
too_long (Agreed agreed cr flag) len h = rw (lt-leb len 255 h)

-- code's refusals, in their order
code-first : (s : Settings) (p : List ℕ) → valid_sf s.sf ≡ false → code_of s p 832 ≡ refuse 1 0
unfolding code_of count_of
code-first s p e = rw e

code-second : (s : Settings) (p : List ℕ) → valid_sf s.sf ≡ true → valid_cr (cr_of s.kind) ≡ false → code_of s p 832 ≡ refuse 2 0
unfolding code_of count_of
code-second s p e f = rw (e, f)

code-third : (s : Settings) (p : List ℕ) → valid_sf s.sf ≡ true → valid_cr (cr_of s.kind) ≡ true → 255 < length p → code_of s p 832 ≡ refuse 3 0
unfolding code_of count_of
code-third s p e f h = rw (e, f, too_long s.kind (length p) h)

high-sf : (n : ℕ) → 12 < n → valid_sf n ≡ false
unfolding valid_sf
high-sf n h = rw (lt-leb n 12 h) (and-false (leb 7 n))

high-cr : (n : ℕ) → 4 < n → valid_cr n ≡ false
unfolding valid_cr
high-cr n h = rw (lt-leb n 4 h) (and-false (leb 1 n))

-- a payload that is too long is refused alike where it is cut
long_same : (s : Settings) (p q : List ℕ) → 255 < length p → 255 < length q → Same (wish s p) (wish s q)
long_same s p q h l = go (valid_sf s.sf) (valid_cr (cr_of s.kind)) refl refl
  where
    go : (t u : Bool) → valid_sf s.sf ≡ t → valid_cr (cr_of s.kind) ≡ u → Same (wish s p) (wish s q)
    go false u e f = refused-same (code-first s p e) (code-first s q e)
    go true false e f = refused-same (code-second s p e f) (code-second s q e f)
    go true true e f = refused-same (code-third s p e f h) (code-third s q e f l)

cut-same : (w : Wish) → Same (cut w) w
cut-same bad = record { line = refl; outcome = refl }
cut-same (wish s p) = go (leb (length p) 255) refl
  where
    go : (t : Bool) → leb (length p) 255 ≡ t → Same (wish s (take 256 p)) (wish s p)
    go true e = rw (take_all 256 p (omega (arith, leb-true (length p) 255 e))) (record { line = refl; outcome = refl })
    go false e =
        let h = leb-false (length p) 255 e in
        long_same s (take 256 p) p (omega (arith, length-take-le 256 p (omega arith))) h

-- a CR narrowed to a byte: it fits one, or it becomes 255
kind_fits : (k : Kind) → cr_of k ≤ 255 → narrow_kind k ≡ k
kind_fits (Explicit cr flag) h = rw (le-leb cr 255 h)
kind_fits (Agreed len cr flag) h = rw (le-leb cr 255 h)

kind-large : (k : Kind) → 255 < cr_of k → cr_of (narrow_kind k) ≡ 255
kind-large (Explicit cr flag) h = rw (lt-leb cr 255 h)
kind-large (Agreed len cr flag) h = rw (lt-leb cr 255 h)

-- SF and CR narrowed to a byte are refused alike where they do not fit one
pub narrow-same : (s : Settings) (p : List ℕ) → Same (wish (narrow s) p) (wish s p)
unfolding narrow
narrow-same s p = go (leb s.sf 255) (leb (cr_of s.kind) 255) refl refl
  where
    go : (t u : Bool) → leb s.sf 255 ≡ t → leb (cr_of s.kind) 255 ≡ u
        → Same (wish (record { sf = cond t s.sf 255; low = s.low; kind = narrow_kind s.kind }) p) (wish s p)
    go true true e f = rw (kind_fits s.kind (leb-true (cr_of s.kind) 255 f)) (record { line = refl; outcome = refl })
    go false u e f =
        refused-same (code-first _ p (high-sf 255 (omega arith))) (code-first s p (high-sf s.sf (omega (arith, leb-false s.sf 255 e))))
    go true false e f = by (valid_sf s.sf) refl
      where
        large : 255 < cr_of s.kind
        large = leb-false (cr_of s.kind) 255 f

        by : (v : Bool) → valid_sf s.sf ≡ v → Same (wish (record { sf = s.sf; low = s.low; kind = narrow_kind s.kind }) p) (wish s p)
        by false g = refused-same (code-first _ p g) (code-first s p g)
        by true g =
            refused-same (code-second _ p g (rw (kind-large s.kind large) (high-cr 255 (omega arith)))) (code-second s p g (high-cr (cr_of s.kind) (omega (arith, large))))

-- what was coded is what the wish is answered by
module _ (s : Settings) (payload : List ℕ) {symbols : List ℕ} {r : Result ℕ Refusal} (c : Coding s payload (blank 832 0) symbols r) where
  answered : r ≡ code_of s payload 832
  answered = c.answer ∙ ap (code_of s payload) (length-blank {A = ℕ} 832 0)

  pub coded-line : sent_line s r symbols ≡ answer_to (wish s payload)
  coded-line = sent r c.cells ∙ rw answered
    where
      sent : (q : Result ℕ Refusal) → symbols ≡ symbols_after q s payload (blank 832 0) → sent_line s q symbols ≡ line_for s payload q
      sent (Ok count) e = rw (e, take_at (tab count (sent_symbol (frame_of s) payload)) _ count (length-tab count (sent_symbol (frame_of s) payload)))
      sent (Err refusal) e = refl

  pub coded-outcome : outcome_for r ≡ outcome_to (wish s payload)
  coded-outcome = rw answered

  pub coded-fits : Fitted r
  coded-fits = fits r (sym answered)
    where
      fits : (q : Result ℕ Refusal) → code_of s payload 832 ≡ q → Fitted q
      fits (Ok count) e = (coded s payload 832 count e).1
      fits (Err refusal) e = tt

pub frame-line : {x y : ℕ} (s : Settings) (symbols : List ℕ) → x ≡ s.sf → y ≡ as_bit s.low
    → frame_line s symbols ≡ front_of s.kind ++ (decimal x ++ (field y ++ (fields symbols ++ (10 ∷ []))))
unfolding frame_line
frame-line s symbols e f = rw (e, f)

-- what stands in front of the line of a frame without a header
pub front-line : {k : Kind} {len cr x y : ℕ} {flag : Bool} → k ≡ Agreed len cr flag → x ≡ cr → y ≡ as_bit flag
    → front_of k ≡ (61 ∷ []) ++ (field len ++ (field x ++ (field y ++ (32 ∷ []))))
front-line e p q = rw (e, p, q)

-- what a text that ends here is, by the settings that it says
module _ (s : State) where
  pub numbers-say : Settings
  numbers-say = settings_in s.head.agreed s.head.text.numbers

  pub taken-none : None ≡ settings_taken s → taken s ≡ bad
  unfolding taken said settings_taken settings_in_front numbers-say settings_in
  taken-none e = go (complete s.word) (eqb (length s.head.text.numbers) (front s.head.agreed)) (flags_in s.head.agreed s.head.text.numbers) e
    where
      go : (t u v : Bool) → None ≡ check t None (check u None (check v None (Some (narrow numbers-say))))
          → check t bad (check u bad (check v bad (wish numbers-say s.payload))) ≡ bad
      go false u v q = refl
      go true false v q = refl
      go true true false q = refl
      go true true true q = absurd (let z : ◌≡◌ {A = ℕ} 0 1 = cc in omega arith)

  pub taken-some : (t : Settings) → Some t ≡ settings_taken s → (taken s ≡ wish numbers-say s.payload) × (t ≡ narrow numbers-say)
  unfolding taken said settings_taken settings_in_front numbers-say settings_in
  taken-some t e = go (complete s.word) (eqb (length s.head.text.numbers) (front s.head.agreed)) (flags_in s.head.agreed s.head.text.numbers) e
    where
      go : (f u v : Bool) → Some t ≡ check f None (check u None (check v None (Some (narrow numbers-say))))
          → (check f bad (check u bad (check v bad (wish numbers-say s.payload))) ≡ wish numbers-say s.payload) × (t ≡ narrow numbers-say)
      go false u v q = absurd (let z : ◌≡◌ {A = ℕ} 0 1 = cc in omega arith)
      go true false v q = absurd (let z : ◌≡◌ {A = ℕ} 0 1 = cc in omega arith)
      go true true false q = absurd (let z : ◌≡◌ {A = ℕ} 0 1 = cc in omega arith)
      go true true true q = (refl, cc)

-- whatever pieces a text was taken in, its line is the one that answers the whole text
pub answers-wish : (bytes : List ℕ) → line_at (run start bytes) ≡ answer_of bytes
unfolding answer_of line_at
answers-wish bytes = rw (scanned bytes) (cut-same (wish_in bytes)).line

-- and so is its outcome
pub outcome-wish : (bytes : List ℕ) → outcome_at (run start bytes) ≡ outcome_is bytes
unfolding outcome_is outcome_at
outcome-wish bytes = rw (scanned bytes) (cut-same (wish_in bytes)).outcome
