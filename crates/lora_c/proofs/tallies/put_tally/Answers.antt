-- The first three cells, and those of the refusals behind them.
use Rattle.std.proofs.Common.{rules, ◌≡◌, length, ◌++◌, List, ◌∷◌, ℕ, ap}
use Rattle.std.proofs.lemmas.List.{drop-drop}
use Rattle.lora_c.proofs.TallyLaws.{cells_of_tally}
use Rattle.lora_c.proofs.tallies.put_tally.Goals as goal

pub returns : goal.returns
returns c =
    let long : length c.args.t.refused ≡ 13 = search rules in
    rw (cells_of_tally c.args.t long, c.copy_from_slice.ensures.after, c.copy_from_slice-2.ensures.after)
    (ap (λ (l : List ℕ). c.args.t.heard ∷ c.args.t.clean ∷ c.args.t.repaired ∷ (c.args.t.refused ++ l)) (drop-drop 13 3 c.args.cells.now))
