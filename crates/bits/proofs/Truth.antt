-- Laws of truth values and of checks that the kit's `mathlib.Core.Bool` lacks.
-- Assumes nothing.
use mathlib.Core.Path.{◌≡◌, refl, sym}
use mathlib.Core.Bool.{Bool, true, false, true≢false, ◌&&◌, cond}
use Rattle.bits.specs.Check.{check}

-- what can't be true is false
pub refuted : (t : Bool) → (t ≡ true → ⊥) → t ≡ false
refuted true never = absurd (never refl)
refuted false never = refl

-- two tests that hold together both hold
pub both_true : (a b : Bool) → a && b ≡ true → (a ≡ true) × (b ≡ true)
both_true true b e = (refl, e)
both_true false b e = absurd (true≢false (sym e))

module _ {A : Type 0} where
  -- a test between two that are the same
  pub cond_same : (t : Bool) (a : A) → cond t a a ≡ a
  cond_same true a = refl
  cond_same false a = refl

  -- a check before what is the refusal anyway
  pub check-same : (t : Bool) {refusal next : A} → next ≡ refusal → check t refusal next ≡ refusal
  check-same true e = e
  check-same false e = refl

  -- a check is a test with its two sides turned
  pub check-cond : (t : Bool) (refusal next : A) → check t refusal next ≡ cond t next refusal
  check-cond true refusal next = refl
  check-cond false refusal next = refl

  -- two checks with the same refusal, in either order
  pub check-swap : (s t : Bool) (refusal next : A) → check s refusal (check t refusal next) ≡ check t refusal (check s refusal next)
  check-swap true t refusal next = refl
  check-swap false true refusal next = refl
  check-swap false false refusal next = refl
