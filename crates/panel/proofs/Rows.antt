-- Laws of the panel's lines of refusals, which are written by a table.
-- Assumes nothing.
use mathlib.Core.Path.{◌≡◌, refl}
use mathlib.Core.Bool.{Bool, true, and-eq-true_iff}
use mathlib.Core.List.{List, [], ◌∷◌, ◌++◌, append_assoc, append-nil, map, flat_map}
use Prim.Native.Nat.{ℕ, zero, suc, ◌+◌, ◌*◌, ◌<◌, ◌≤◌}
use native.Mathlib.Omega.{arith}
use borrow.Author.Tests.{leb-true}
use denote.Bor.{Bor}
use lib.Dec.{leb}
use lib.ListN.{length, get_or, take}
use lib.Seq.{take_all}
use Rattle.std.specs.List.{list_all}
use Rattle.bits.proofs.Lists.{flat_map-more}
use Rattle.put.specs.Put.{Put}
use Rattle.put.proofs.Puts.{put-none, put_on}
use Rattle.panel.specs.Panel.{panel_line, call_lines, symbol_lines, check_lines, refused_lines}
use Rattle.panel.specs.Words.{words1, words2, words3, words4, words5, words6, words7, words9, words10, words11, words12}

-- a row of the table: words and a number; its line
abbrev pub Row : Type 0
Row = Bor (List ℕ) × ℕ

abbrev pub row_line : List ℕ → Row → List ℕ
row_line cells r = panel_line r.0.now (get_or cells r.1 0)

abbrev pub rows_lines : List ℕ → List Row → List ℕ
rows_lines cells rows = flat_map (row_line cells) rows

-- no words are longer than 34 bytes
abbrev pub short : Row → Bool
short r = leb (length r.0.now) 34

-- what a list of rows has behind its end
abbrev pub no_row : Row
no_row = (record { ref_ptr = (0, 0); now = [] }, 0)

row_short : (rows : List Row) (i : ℕ) → list_all short rows ≡ true → length (get_or rows i no_row).0.now ≤ 34
row_short [] i e = omega arith
row_short (r ∷ rows) zero e = leb-true (length r.0.now) 34 ((and-eq-true_iff (short r) (list_all short rows)).0 e).0
row_short (r ∷ rows) (suc i) e = row_short rows i ((and-eq-true_iff (short r) (list_all short rows)).0 e).1

-- the lines of the first i rows stand from the place at on; each has at most 57 bytes
pub record Written (cells : List ℕ) (rows : List Row) (i at next : ℕ) (old new : List ℕ) : Type 0 where
  pub put : Put at (rows_lines cells (take i rows)) old new next
  pub few : next ≤ at + 57 * i

pub written-none : (cells : List ℕ) (rows : List Row) (at : ℕ) (d : List ℕ) → at ≤ length d → Written cells rows 0 at at d d
unfolding flat_map
written-none cells rows at d h = record { put = put-none at d h; few = omega arith }

-- the room that the next row needs, and one row more
pub row-room : {cells : List ℕ} {rows : List Row} {i at next : ℕ} {a b : List ℕ} → Written cells rows i at next a b → list_all short rows ≡ true → i < 11 → at + 650 ≤ length b
    → next + (length (get_or rows i no_row).0.now + 23) ≤ length b
row-room {rows = rows} {i = i} w e l h = omega (arith, w.few, row_short rows i e)

pub written-more : {cells : List ℕ} {rows : List Row} {i at next r : ℕ} {a b c : List ℕ} → Written cells rows i at next a b → list_all short rows ≡ true → i < length rows
    → Put next (row_line cells (get_or rows i no_row)) b c r → r ≤ next + (length (get_or rows i no_row).0.now + 23) → Written cells rows (i + 1) at r a c
written-more {cells = cells} {rows = rows} {i = i} w e l q h =
    record { put = rw (← flat_map-more (row_line cells) rows i no_row l) (put_on w.put q); few = omega (arith, w.few, row_short rows i e) }

-- the words and the numbers, as the panel has them
abbrev plain : Row → List ℕ × ℕ
plain r = (r.0.now, r.1)

abbrev pub table : List (List ℕ × ℕ)
table =
    (words1, 1) ∷ (words2, 2) ∷ (words3, 3) ∷ (words4, 4) ∷ (words5, 5) ∷ (words6, 6) ∷ (words7, 7)
    ∷ (words9, 9) ∷ (words10, 10) ∷ (words11, 11) ∷ (words12, 12) ∷ []

abbrev plain_line : List ℕ → List ℕ × ℕ → List ℕ
plain_line cells w = panel_line w.0 (get_or cells w.1 0)

rows-plain : (cells : List ℕ) (rows : List Row) → rows_lines cells rows ≡ flat_map (plain_line cells) (map plain rows)
unfolding flat_map
rows-plain cells [] = refl
rows-plain cells (r ∷ rows) = rw (rows-plain cells rows)

table-lines : (cells : List ℕ) → flat_map (plain_line cells) table ≡ refused_lines cells
unfolding flat_map refused_lines call_lines symbol_lines check_lines
table-lines cells = simp (append_assoc, append-nil)

pub written-all : {cells : List ℕ} {rows : List Row} {i at r : ℕ} {a b : List ℕ} → Written cells rows i at r a b → map plain rows ≡ table → length rows ≤ i → Put at (refused_lines cells) a b r
written-all {cells = cells} {rows = rows} {i = i} w e h = rw (← table-lines cells, ← e, ← rows-plain cells rows) (rw (take_all i rows h) at w.put)
