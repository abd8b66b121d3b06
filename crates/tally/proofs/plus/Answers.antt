-- The four tests in their order.
use Rattle.std.proofs.Common.{◌≡◌, ◌<◌, ℕ, Bool, true, false, cond, None, Some, refl, arith, sym}
use Rattle.std.proofs.lemmas.Option.{cond_some}
use borrow.Author.Tests.{lt-leb, le-leb}
use lib.Dec.{leb}
use Rattle.tally.specs.Tally.{plus, fits, most}
use Rattle.tally.proofs.plus.Goals as goal

fits_in : {n : ℕ} → n < 4294967296 → leb n most ≡ true
fits_in {n} h = le-leb n most (omega arith)

full : {n : ℕ} → (n < 4294967296 → ⊥) → leb n most ≡ false
full {n} h = lt-leb n most (omega arith)

none : {A : Type 0} (b : Bool) (x : A) → None ≡ cond b (Some x) None → b ≡ false
none true x e = absurd (cc e)
none false x e = refl

pub returns-in_err-checked_add : goal.returns-in_err-checked_add
unfolding fits
returns-in_err-checked_add c = rw (c.from_residual.ensures, full c.in_err-checked_add.ensures)

pub returns-in_err-checked_add-2 : goal.returns-in_err-checked_add-2
unfolding fits
returns-in_err-checked_add-2 c =
    rw (c.from_residual-in_err-checked_add-2.ensures, fits_in c.in_ok-checked_add.ensures.0, full c.in_err-checked_add-2.ensures)

pub returns-in_err-checked_add-3 : goal.returns-in_err-checked_add-3
unfolding fits
returns-in_err-checked_add-3 c =
    rw (c.from_residual-in_err-checked_add-3.ensures, fits_in c.in_ok-checked_add.ensures.0, fits_in c.in_ok-checked_add-2.ensures.0, full c.in_err-checked_add-3.ensures)

pub returns-in_err-sums : goal.returns-in_err-sums
unfolding fits
returns-in_err-sums c =
    rw (c.from_residual-in_err-sums.ensures, fits_in c.in_ok-checked_add.ensures.0, fits_in c.in_ok-checked_add-2.ensures.0, fits_in c.in_ok-checked_add-3.ensures.0, none _ _ c.in_err-sums.ensures)

pub returns : goal.returns
unfolding fits plus
returns c =
    let (fit, same) = cond_some _ _ _ (sym c.in_ok-sums.ensures) in
    rw (fits_in c.in_ok-checked_add.ensures.0, fits_in c.in_ok-checked_add-2.ensures.0, fits_in c.in_ok-checked_add-3.ensures.0, fit, ← same, ← c.in_ok-checked_add.ensures.1, ← c.in_ok-checked_add-2.ensures.1, ← c.in_ok-checked_add-3.ensures.1)
