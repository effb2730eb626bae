-- The landing from period j is known, and every period from j on has its part.
-- Assumes nothing.
use mathlib.Core.Path.{◌≡◌}
use Rattle.assignment.specs.Rows.{el}
use Rattle.forecast_plan.specs.Forecast.{first_room}
use Rattle.forecast_plan.specs.Loop.{Adding}
use Rattle.forecast_plan.proofs.add_air.Given as goal

abbrev pub invariant-loop-j : goal.invariant-loop-j
invariant-loop-j l =
    (l.lands ≡ first_room (el l.waits) l.forecast l.j) × Adding l.forecast l.waits l.weight l.due l.initial.air l.air l.j
