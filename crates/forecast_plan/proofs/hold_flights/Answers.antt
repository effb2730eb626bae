-- Nobody is held yet, and nobody waits.
-- Assumes nothing.
use Rattle.forecast_plan.proofs.Placing.{placed_none}
use Rattle.forecast_plan.proofs.hold_flights.Goals as goal

pub hold_all-requires : goal.hold_all-requires
hold_all-requires c =
    placed_none c.requires.0 c.requires.1
