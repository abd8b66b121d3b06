-- Whether two readings of a word are the same, as a test.
-- Assumes nothing.
use mathlib.Core.Path.{◌≡◌, refl, ap, ap₂}
use mathlib.Core.Bool.{Bool, true, false, ◌&&◌}
use lib.Dec.{T, eqb, eqb→eq}
use Rattle.bits.proofs.Every.{and_left, and_right}
use Rattle.codeword.specs.Found.{Found, taken, repaired, unreadable}

unfoldable pub alike : Found → Found → Bool
alike (taken m) (taken n) = eqb m n
alike (taken m) (repaired n j) = false
alike (taken m) unreadable = false
alike (repaired m i) (taken n) = false
alike (repaired m i) (repaired n j) = eqb m n && eqb i j
alike (repaired m i) unreadable = false
alike unreadable (taken n) = false
alike unreadable (repaired n j) = false
alike unreadable unreadable = true

pub alike→eq : (r s : Found) → T (alike r s) → r ≡ s
unfolding alike
alike→eq (taken m) (taken n) t = ap taken (eqb→eq m n t)
alike→eq (taken m) (repaired n j) t = absurd t
alike→eq (taken m) unreadable t = absurd t
alike→eq (repaired m i) (taken n) t = absurd t
alike→eq (repaired m i) (repaired n j) t = ap₂ repaired (eqb→eq m n (and_left (eqb m n) (eqb i j) t)) (eqb→eq i j (and_right (eqb m n) (eqb i j) t))
alike→eq (repaired m i) unreadable t = absurd t
alike→eq unreadable (taken n) t = absurd t
alike→eq unreadable (repaired n j) t = absurd t
alike→eq unreadable unreadable t = refl
