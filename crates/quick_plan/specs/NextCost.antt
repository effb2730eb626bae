-- What one more period of hold costs a flight in a period, for each of the quick plans.
-- Assumes nothing.
use Rattle.std.specs.Prelude.{Bool, true, List, ℕ, ◌-◌}
use Rattle.day.specs.Day.{due_of, rate_of}
use Rattle.growth.specs.Growth.{growth_fits, further_cost}
use Rattle.quick_plan.specs.declared.NextCost.{NextCost}
use Rattle.quick_plan.specs.declared.NextCost.TheVariants.{Rate, Growing}

-- what one more period of hold costs the flight at table place i in period j: its rate, or, with a growth of a tenths, what the further
-- period costs that follows those from its due on (#105)
unfoldable pub next_cost : NextCost → List ℕ → ℕ → ℕ → ℕ
next_cost Rate flights j i = rate_of flights i
next_cost (Growing a) flights j i = further_cost a (rate_of flights i) (j - due_of flights i)

-- a plan is made with it on a day of so many periods
unfoldable pub fits : NextCost → ℕ → Bool
fits Rate periods = true
fits (Growing a) periods = growth_fits a periods
