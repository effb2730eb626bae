-- The row is known up to the period in which the flight that is new lands, and stays as it was behind it.
-- Assumes nothing.
use Rattle.forecast_plan.proofs.Turns.{turn_last}
use Rattle.forecast_plan.proofs.refresh_one.Goals as goal

pub waiting-requires : goal.waiting-requires
waiting-requires c =
    let pre = c.before.requires in
    turn_last pre.0 pre.2 pre.4 c.first_room-lands.ensures c.min.ensures
