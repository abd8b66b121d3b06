-- Laws of what the turns hand on.
-- Assumes nothing.
use mathlib.Core.Path.{◌≡◌, ◌∙◌}
use mathlib.Core.List.{List, ◌++◌}
use Prim.Native.Nat.{ℕ, ◌≤◌}
use native.Mathlib.Omega.{arith}
use Rattle.lines.specs.Stream.{run, part}
use Rattle.lines.specs.declared.Progress.{Progress}
use Rattle.lines.proofs.Parts.{part-on}
use Rattle.lines.proofs.StreamLaws.{run-append}

-- bytes behind bytes
pub run-on : (p : Progress) {q later : Progress} (xs ys : List ℕ) → q ≡ run p xs → later ≡ run q ys → later ≡ run p (xs ++ ys)
run-on p xs ys e f = f ∙ (rw e (run-append p xs ys))

pub run-part : (p : Progress) {q later : Progress} (chunk : List ℕ) (a b : ℕ) → a ≤ b → q ≡ run p (part chunk 0 a)
    → later ≡ run q (part chunk a b) → later ≡ run p (part chunk 0 b)
run-part p chunk a b h e f = rw (← part-on chunk 0 a b (omega arith) h) (run-on p (part chunk 0 a) (part chunk a b) e f)
