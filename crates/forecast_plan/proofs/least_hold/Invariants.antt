-- The best is the least of the holds looked at.
-- Assumes nothing.
use Prim.Native.Nat.{◌-◌}
use Rattle.assignment.specs.Rows.{el}
use Rattle.forecast_plan.specs.Loop.{weighed, Chooses}
use Rattle.forecast_plan.proofs.least_hold.Given as goal

abbrev pub invariant-loop-hold : goal.invariant-loop-hold
invariant-loop-hold l =
    Chooses (l.hold - 1) (weighed l.f l.factor (el l.air)) l.best
