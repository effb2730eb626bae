-- std's test of all places is the definition's.
-- Assumes nothing.
use Rattle.std.proofs.Common.{ℕ, ◌≡◌, ◌+◌, ◌∙◌, eqb, rules, tests, arith}
use Rattle.std.proofs.lemmas.Iterator.{YieldsList-from_range}
use Rattle.std.proofs.lemmas.Iterator.Search.{all_from_yields_List}
use Rattle.day.specs.Day.{flight_at, jump_of}
use Rattle.day.proofs.Tests.{all_of_range}
use Rattle.forecast_plan.proofs.no_jumps.Goals as goal

pub returns : goal.returns
unfolding flight_at
returns c =
    let a = c.args in
    let plain = λ (i : ℕ). eqb (jump_of a.flights.now i) 0 in
    rw c.flight_count.ensures at (all_from_yields_List plain _ _ _ c.all.ensures.ran (YieldsList-from_range 0 c.flight_count.result c.flight_count.result (cc) (omega arith)) (λ x b q k. search (rules, tests))
    ∙ all_of_range plain plain c.flight_count.result 0 (λ k. let e : 0 + k ≡ k = omega arith in rw e))
