-- So few numbers of 32 bits can't pass 64.
use Rattle.std.proofs.Common.{arith, rules, sum, tests, ◌≡◌, ◌∙◌, refl, sym}
use Rattle.std.proofs.lemmas.Iterator.{YieldsList-from_slice}
use Rattle.std.proofs.lemmas.Iterator.Adapters.{fits_from_length, at_most_from_yields_List}
use Rattle.std.proofs.lemmas.List.Recursion.{is_sum_by}
use Rattle.bits.specs.Sum as bits
use Rattle.tally.proofs.refused_in_all.Goals as goal

pub sum-requires-clause-fits : goal.sum-requires-clause-fits
sum-requires-clause-fits c = fits_from_length _ _ 13 _ (at_most_from_yields_List (YieldsList-from_slice c.args.t.refused (cc)) (grind arith)) c.map.ensures.closure (omega arith) (λ x r q k. search (rules, tests))

pub returns : goal.returns
unfolding bits.sum
returns c =
    let total : c.sum.result ≡ sum c.args.t.refused = search rules in
    total ∙ sym (is_sum_by bits.sum (λ x. x) refl (λ _ _. refl) c.args.t.refused)
