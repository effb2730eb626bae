-- The row is the one after the periods before j.
-- Assumes nothing.
use Prim.Native.Nat.{◌+◌, ◌≤◌}
use Rattle.day.specs.Checked.{day_of}
use Rattle.quick_plan.specs.NextCost.{next_cost}
use Rattle.quick_plan.specs.Loop.{without_line}
use Rattle.quick_plan.proofs.Steps.{Planned}
use Rattle.quick_plan.proofs.plan_to.Given as goal

abbrev pub invariant-loop-j : goal.invariant-loop-j
invariant-loop-j l = (l.j ≤ l.stop + 1) × Planned (without_line (day_of l.day)) (next_cost l.next l.day.flights.now) l.holds l.j
