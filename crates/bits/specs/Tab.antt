-- Lists by a rule.
-- Assumes nothing.
use Rattle.std.specs.Prelude.{List, [], ◌∷◌, ◌++◌, ℕ, zero, suc, ◌+◌, ◌<◌, length, get_or, take, drop, replicate}

module _ {A : Type 0} where
  -- f 0, f 1, .., n of them
  unfoldable pub tab : ℕ → (ℕ → A) → List A
  tab zero f = []
  tab (suc n) f = tab n f ++ (f n ∷ [])

  -- the first n cells by the rule, and the rest as it was
  abbrev pub over : ℕ → (ℕ → A) → List A → List A
  over n f d = tab n f ++ drop n d

  -- n cells from the place at on by the rule, and the rest as it was
  abbrev pub over_at : ℕ → ℕ → (ℕ → A) → List A → List A
  over_at at n f d = take at d ++ (tab n f ++ drop (at + n) d)

  -- n times the same
  unfoldable pub blank : ℕ → A → List A
  blank n a = replicate n a

  -- the list l from the place at on, and the rest as it was
  abbrev pub placed : ℕ → List A → List A → List A
  placed at l d = take at d ++ (l ++ drop (at + length l) d)

-- bytes, as a payload's cells are
abbrev pub Bytes : List ℕ → Type 0
Bytes l = (i : ℕ) → get_or l i 0 < 256
