-- The growing plan (#105): the quick plan that "lands the highest next costs", and what its call answers.
-- Assumes nothing.
use Rattle.std.specs.Prelude.{cond, not, List, ℕ, ◌≤◌, Ok, Err}
use Rattle.assignment.specs.Sum.{sum}
use Rattle.answers.specs.Answers.{Outcome, outcome}
use Rattle.answers.specs.declared.Refusal.TheVariants.{BadGrowth}
use Rattle.day.specs.Day.{Day, P, rate_of, hold, flight_count}
use Rattle.day.specs.Plan.{Legal}
use Rattle.growth.specs.Growth.{growth_fits, growth_cost}
use Rattle.quick_plan.specs.declared.NextCost.TheVariants.{Growing}
use Rattle.quick_plan.specs.NextCost.{next_cost}
use Rattle.quick_plan.specs.Quick.{quick_by}
use Rattle.quick_plan.specs.Calls.{quick_check, on_quick, if_room}

-- what one more period of hold costs, with a growth of a tenths
abbrev pub growing : (a : ℕ) → Day → ℕ → ℕ → ℕ
growing a d = next_cost (Growing a) d.flights

-- the growing plan's holds, in table order
abbrev pub growing_quick : (a : ℕ) → Day → List ℕ
growing_quick a d = quick_by d (growing a d)

-- the total "in millionths"
unfoldable pub growing_total : (a : ℕ) (flights holds : List ℕ) → ℕ
growing_total a flights holds = sum (flight_count flights) (λ i. growth_cost a (rate_of flights i) (hold holds i))

-- "no legal plan is cheaper in millionths"
pub record CheapestGrowing (a : ℕ) (d : Day) (holds : List ℕ) : Type 0 where
  pub legal : Legal d holds
  pub least : (other : List ℕ) → Legal d other → growing_total a d.flights holds ≤ growing_total a d.flights other

-- the call: refusals 6, 7, 8, then 14, "if a or the number of periods is out of range", and 9 (#108); they leave the row as it was
unfoldable pub growth_plan : (a : ℕ) → Day → List ℕ → Outcome
growth_plan a d holds =
    on_quick (quick_check d holds) holds
    (cond (not (growth_fits a (P d))) (outcome (Err BadGrowth) holds)
    (if_room d (growing a d) holds (outcome (Ok (growing_total a d.flights (growing_quick a d))) (growing_quick a d))))
