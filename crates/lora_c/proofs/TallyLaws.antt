-- Laws of a tally as the cells of a lent array.
-- Assumes nothing.
use mathlib.Core.List.{List, ◌∷◌}
use mathlib.Core.Path.{◌≡◌, sym, ap, ◌∙◌}
use Prim.Native.Nat.{ℕ, ◌≤◌}
use native.Mathlib.Omega.{arith}
use lib.ListN.{length, take, drop}
use Rattle.std.proofs.lemmas.List.{get_or-take, get_or-drop, length-take, length-drop}
use Rattle.bits.specs.Tab.{tab}
use Rattle.bits.proofs.Tabs.{tab-get_or, tab-cong}
use Rattle.lora_c.specs.TallyExport.{cell_of, refused_at}
use Rattle.tally.specs.declared.Tally.{Tally}

-- the cells of the refusals
pub refused_of_cells : (cells : List ℕ) → 16 ≤ length cells → take 13 (drop 3 cells) ≡ tab 13 (refused_at cells)
unfolding refused_at
refused_of_cells cells h =
    let piece = take 13 (drop 3 cells) in
    let long : length (take 13 (drop 3 cells)) ≡ 13 = simp (length-take, length-drop) (omega arith) in
    sym (tab-get_or (take 13 (drop 3 cells)) 0)
    ∙ rw long (tab-cong 13 _ _ (λ i l. get_or-take 13 (drop 3 cells) i 0 l ∙ get_or-drop 3 cells i 0))

-- the cells of a tally: three, and those of the refusals
pub cells_of_tally : (t : Tally) → length t.refused ≡ 13 → tab 16 (cell_of t) ≡ t.heard ∷ t.clean ∷ t.repaired ∷ t.refused
unfolding tab
cells_of_tally t h = ap (λ (l : List ℕ). t.heard ∷ t.clean ∷ t.repaired ∷ l) (rw h at (tab-get_or t.refused 0))
