-- std's test of all places is the definition's.
-- Assumes nothing.
use Rattle.std.proofs.Common.{rules, tests, arith, ◌∙◌, ◌≡◌, ◌+◌}
use Rattle.std.proofs.lemmas.Iterator.{YieldsList-from_range}
use Rattle.std.proofs.lemmas.Iterator.Search.{all_from_yields_List}
use Rattle.day.specs.Day.{in_range}
use Rattle.day.proofs.Tests.{all_of_range}
use Rattle.day.proofs.flights_in_range.Goals as goal

pub returns : goal.returns
returns c =
    let a = c.args in
    let fits = in_range a.periods a.flights.now in
    all_from_yields_List fits _ _ _ c.all.ensures.ran (YieldsList-from_range 0 a.n a.n (cc) (omega arith)) (λ x b q k. search (rules, tests))
    ∙ all_of_range fits fits a.n 0 (λ k. let e : 0 + k ≡ k = omega arith in rw e)
