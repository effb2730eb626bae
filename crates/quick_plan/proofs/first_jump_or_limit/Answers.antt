-- Each place of the table is asked, up to the first that answers yes. Assumes nothing.
use mathlib.Core.Path.{◌≡◌}
use mathlib.Core.Bool.{true, false}
use native.Mathlib.Omega.{arith}
use borrow.Author.Rules.{rules}
use Rattle.std.proofs.Common.{tests}
use Rattle.std.proofs.lemmas.Iterator.{first_from_Range, serves_from_Range}
use Rattle.day.specs.Day.{flight_at}
use Rattle.day.specs.Plan.{jump_or_limit}
use Rattle.day.proofs.Flights.{there}
use Rattle.quick_plan.proofs.Steps.{first_is}
use Rattle.quick_plan.proofs.first_jump_or_limit.Goals as goal

pub find-requires-clause-callable : goal.find-requires-clause-callable
find-requires-clause-callable c =
    serves_from_Range (λ x q k. search (rules, tests)) (λ x low high y e _ _ _ _ _ _ _ _. rw e (there c.args.flights.now x (omega arith)))

pub returns : goal.returns
returns c =
    first_is c.args.flights.now c.flight_count.ensures _
    (first_from_Range _ _ _ _ (λ i. jump_or_limit (flight_at c.args.flights.now i) ≡ true) (λ i. jump_or_limit (flight_at c.args.flights.now i) ≡ false) c.find.ensures.ran
    (λ x q k. grind (arith, tests))
    (λ x q k. (search rules, grind (arith, tests))))
