-- A flight held to q lands where one does that is held to k: the periods between are full.
-- Assumes nothing.
use mathlib.Core.Path.{◌≡◌}
use Rattle.assignment.specs.Rows.{el}
use Rattle.forecast_plan.specs.Forecast.{first_room}
use Rattle.forecast_plan.proofs.first_room.Given as goal

abbrev pub invariant-loop-k : goal.invariant-loop-k
invariant-loop-k l =
    first_room (el l.waits) l.forecast l.k ≡ first_room (el l.waits) l.forecast l.q
