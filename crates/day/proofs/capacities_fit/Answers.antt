-- std's test of all entries is the definition's.
-- Assumes nothing.
use Rattle.std.proofs.Common.{ℕ, leb, rules, tests, ◌∙◌}
use Rattle.std.proofs.lemmas.Iterator.{YieldsList-from_slice}
use Rattle.std.proofs.lemmas.Iterator.Search.{all_from_yields_List}
use Rattle.day.proofs.Tests.{all_of_list}
use Rattle.day.proofs.capacities_fit.Goals as goal

pub returns : goal.returns
returns c =
    let a = c.args in
    let fits = λ (x : ℕ). leb x 255 in
    all_from_yields_List fits _ _ _ c.all.ensures.ran (YieldsList-from_slice a.capacities.now (cc)) (λ x b q k. search (rules, tests))
    ∙ all_of_list fits a.capacities.now
