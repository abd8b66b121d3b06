-- The lines on standard error.
-- Assumes nothing.
use Rattle.std.specs.Prelude.{List, [], ◌∷◌, ◌++◌, ℕ, Err}
use Rattle.line.specs.Line.{field, line_of}
use Rattle.refusal.specs.declared.Refusal.{Refusal}
use Rattle.keep.specs.declared.Rows.{Rows}

-- line N: no NUMBER PLACE; byte 10 at the end
unfoldable pub told_line : ℕ → Refusal → List ℕ
told_line n e = (108 ∷ 105 ∷ 110 ∷ 101 ∷ []) ++ (field n ++ (58 ∷ 32 ∷ line_of (Err e) []))

-- kept FRAMES REPAIRED REFUSED TOLD; byte 10 at the end
unfoldable pub kept_line : Rows → ℕ → List ℕ
kept_line rows told =
    (107 ∷ 101 ∷ 112 ∷ 116 ∷ []) ++ (field rows.frames ++ (field rows.repaired ++ (field rows.refused ++ (field told ++ (10 ∷ [])))))
