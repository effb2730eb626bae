-- Who waits under the first s forecasts is up to date.
-- Assumes nothing.
use lib.ListN.{length}
use Rattle.forecast_plan.proofs.Refreshing.{Refreshed}
use Rattle.forecast_plan.proofs.refresh.Given as goal

abbrev pub invariant-loop-s : goal.invariant-loop-s
invariant-loop-s l = Refreshed l.periods (length l.odds.weights.now) l.odds.rows.now l.held l.waits l.from l.s
