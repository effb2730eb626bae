-- The flights above table place i are placed.
-- Assumes nothing.
use Rattle.day.specs.Checked.{day_of}
use Rattle.forecast_plan.specs.Loop.{odds_of, Placed}
use Rattle.forecast_plan.proofs.hold_all.Given as goal

abbrev pub invariant-loop-i : goal.invariant-loop-i
invariant-loop-i l =
    Placed (day_of l.day) (odds_of l.odds) l.holds l.held l.waits l.total l.i
