-- The first s forecasts are weighed.
-- Assumes nothing.
use Rattle.forecast_plan.specs.Loop.{Weighed}
use Rattle.forecast_plan.proofs.weigh_air.Given as goal

abbrev pub invariant-loop-s : goal.invariant-loop-s
invariant-loop-s l = Weighed l.periods l.odds.weights.now l.odds.rows.now l.waits l.due l.air l.s
