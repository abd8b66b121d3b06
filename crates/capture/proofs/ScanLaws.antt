-- The front of a capture, and the text behind it.
-- Assumes nothing.
use mathlib.Core.Path.{◌≡◌, refl, sym, ◌∙◌}
use mathlib.Core.Bool.{Bool, true, false, not, ◌&&◌, cond, and-false, true≢false, false≢true}
use mathlib.Core.List.{List, [], ◌∷◌, ◌++◌, foldl-append}
use mathlib.Core.Logic.{◌⊎◌, inl, inr, ⊎_elim}
use Prim.Native.Nat.{ℕ, ◌+◌, ◌-◌, ◌*◌}
use native.Mathlib.Omega.{arith}
use borrow.Author.Tests.{ne_eqb, eqb-true}
use lib.Dec.{leb, ltb, eqb}
use lib.ListN.{length, take, drop, length-drop, take-append-drop}
use Rattle.bits.proofs.Lists.{length_more}
use Rattle.bits.proofs.Truth.{refuted, both_true}
use Rattle.text.specs.Scan as text
use Rattle.text.specs.Text.{is_separator, is_digit}
use Rattle.text.proofs.TextLaws.{step-refused, step-shuts}
use Rattle.capture.specs.Capture.{is_mark}
use Rattle.text.specs.Scan.{empty}
use Rattle.capture.specs.Scan.{State, fresh, step, run, Fronted}

-- a mark in its place, and any other byte
pub step-mark : (s : State) (b : ℕ) → is_mark b && fresh s ≡ true → step s b ≡ record { agreed = true; text = text.start }
unfolding step
step-mark s b e = rw e

step_other : (s : State) (b : ℕ) → is_mark b && fresh s ≡ false → step s b ≡ record { agreed = s.agreed; text = text.step s.text b }
unfolding step
step_other s b e = rw e

-- bytes behind the front go into the text
pub step-on : (s : State) (b : ℕ) → fresh s ≡ false → step s b ≡ record { agreed = s.agreed; text = text.step s.text b }
step-on s b f = step_other s b (rw f (and-false (is_mark b)))

pub step-plain : (s : State) (b : ℕ) → is_mark b ≡ false → step s b ≡ record { agreed = s.agreed; text = text.step s.text b }
step-plain s b e = step_other s b (rw e)

-- what is not empty stays so: the open number ends, a byte is no separator
refuse-fills : (t : text.State) → empty (text.refuse t) ≡ false
unfolding empty text.refuse
refuse-fills t = refl

refused-fills : (t : text.State) → t.refused ≡ true → empty t ≡ false
unfolding empty
refused-fills t e = rw e

shut-fills : (t : text.State) → empty t ≡ false → empty (text.shut t) ≡ false
unfolding text.shut empty
shut-fills t e = go (eqb t.digits 0) (ltb (length t.numbers) 837)
  where
    more : eqb (length (t.numbers ++ (t.value ∷ []))) 0 ≡ false
    more = ne_eqb (length (t.numbers ++ (t.value ∷ []))) 0 (λ q. omega (arith, length_more t.numbers t.value))

    go : (d f : Bool) → empty (cond d t (cond f (record { refused = false; digits = 0; value = 0; numbers = t.numbers ++ (t.value ∷ []) }) (text.refuse t))) ≡ false
    go true f = e
    go false true = more
    go false false = refuse-fills t

grown-fills : (t : text.State) (b : ℕ) → empty (text.grown t b) ≡ false
unfolding text.grown empty
grown-fills t b = go (ltb t.digits 5 && leb (t.value * 10 + (b - 48)) 65535)
  where
    go : (f : Bool) → empty (cond f (record { refused = false; digits = t.digits + 1; value = t.value * 10 + (b - 48); numbers = t.numbers }) (text.refuse t)) ≡ false
    go true = rw (ne_eqb (t.digits + 1) 0 (λ q. omega arith))
    go false = refuse-fills t

word-fills : (t : text.State) (b : ℕ) → is_separator b ≡ false → empty (text.step t b) ≡ false
unfolding text.step
word-fills t b e = rw e (go t.refused (is_digit b) refl)
  where
    go : (r d : Bool) → t.refused ≡ r → empty (cond r t (cond d (text.grown t b) (text.refuse t))) ≡ false
    go true d f = refused-fills t f
    go false true f = grown-fills t b
    go false false f = refuse-fills t

step-fills : (t : text.State) (b : ℕ) → empty t ≡ false → empty (text.step t b) ≡ false
step-fills t b f = go (is_separator b) t.refused refl refl
  where
    go : (d r : Bool) → is_separator b ≡ d → t.refused ≡ r → empty (text.step t b) ≡ false
    go false r e g = word-fills t b e
    go true true e g = rw (step-refused t b g) f
    go true false e g = rw (step-shuts t b g e) (shut-fills t f)

-- a mark was taken, or something else; and then no mark is in its place any more
pub behind-mark : (t : text.State) → fresh (record { agreed = true; text = t }) ≡ false
unfolding fresh
behind-mark t = refl

behind-text : (a : Bool) (t : text.State) → empty t ≡ false → fresh (record { agreed = a; text = t }) ≡ false
unfolding fresh
behind-text a t e = rw e (and-false (not a))

pub behind-word : (s : State) (b : ℕ) → is_separator b ≡ false → fresh (record { agreed = s.agreed; text = text.step s.text b }) ≡ false
behind-word s b e = behind-text s.agreed (text.step s.text b) (word-fills s.text b e)

pub behind-stays : (s : State) (b : ℕ) → fresh s ≡ false → fresh (record { agreed = s.agreed; text = text.step s.text b }) ≡ false
unfolding fresh
behind-stays s b f = go s.agreed (empty s.text) refl f
  where
    go : (a e : Bool) → empty s.text ≡ e → not a && e ≡ false → not a && empty (text.step s.text b) ≡ false
    go true e g h = refl
    go false true g h = absurd (true≢false h)
    go false false g h = step-fills s.text b g

-- separators in front leave a capture as it is, and the byte behind them ends its front
no-mark : (b : ℕ) → is_separator b ≡ true → is_mark b ≡ false
no-mark b e = refuted (is_mark b) (λ f. let g : b ≡ 61 = eqb-true b 61 f in false≢true (rw g at e))

pub front-stays : (s : State) (b : ℕ) → fresh s ≡ true → is_separator b ≡ true → step s b ≡ s
unfolding fresh empty text.shut
front-stays s b f e = step-plain s b (no-mark b e) ∙ rw (step-shuts s.text b going e, none) refl
  where
    blank : not s.text.refused && (eqb s.text.digits 0 && eqb (length s.text.numbers) 0) ≡ true
    blank = (both_true (not s.agreed) _ f).1

    going : s.text.refused ≡ false
    going = refuted s.text.refused (λ r. false≢true (rw r at blank))

    none : eqb s.text.digits 0 ≡ true
    none = (both_true (eqb s.text.digits 0) _ (both_true (not s.text.refused) _ blank).1).0

pub front-ends : (s : State) (b : ℕ) → is_separator b ≡ false → fresh (step s b) ≡ false
front-ends s b e = go (is_mark b && fresh s) refl
  where
    go : (t : Bool) → is_mark b && fresh s ≡ t → fresh (step s b) ≡ false
    go true f = rw (step-mark s b f) (behind-mark text.start)
    go false f = rw (step_other s b f) (behind-word s b e)

-- so that the rest of a capture is its text's
pub run_on : (bs : List ℕ) (s : State) → fresh s ≡ false → run s bs ≡ record { agreed = s.agreed; text = text.run s.text bs }
unfolding run text.run
run_on [] s f = refl
run_on (b ∷ bs) s f =
    rw (step-on s b f) (run_on bs (record { agreed = s.agreed; text = text.step s.text b }) (behind-stays s b f))

run-rest : (s : State) (bs : List ℕ) → (fresh s ≡ false) ⊎ (length bs ≡ 0) → run s bs ≡ record { agreed = s.agreed; text = text.run s.text bs }
unfolding run text.run
run-rest s [] q = refl
run-rest s (b ∷ bs) q = ⊎_elim (λ f. run_on (b ∷ bs) s f) (λ e. absurd (omega arith)) q

-- a capture in two pieces
pub run-append : (s : State) (xs ys : List ℕ) → run (run s xs) ys ≡ run s (xs ++ ys)
unfolding run
run-append s xs ys = sym (foldl-append step s xs ys)

-- a piece of which the front was taken, and the text from there on
pub piece-rest : (s : State) (piece : List ℕ) (new : State) (end : ℕ) → Fronted s piece new end
    → record { agreed = new.agreed; text = text.run new.text (drop end piece) } ≡ run s piece
piece-rest s piece new end p = sym (whole ∙ run-rest new (drop end piece) past)
  where
    whole : run s piece ≡ run new (drop end piece)
    whole = rw (p.held, run-append s (take end piece) (drop end piece), take-append-drop end piece)

    past : (fresh new ≡ false) ⊎ (length (drop end piece) ≡ 0)
    past = ⊎_elim (λ e. inl e) (λ e. inr (omega (arith, length-drop end piece))) p.past
