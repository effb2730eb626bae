-- The landings that are left, made on the row as it stands, come to the same row throughout.
-- Assumes nothing.
use Prim.Native.Nat.{◌-◌}
use Rattle.day.specs.Day.{capacity}
use Rattle.day.specs.Checked.{day_of}
use Rattle.quick_plan.specs.NextCost.{next_cost}
use Rattle.quick_plan.specs.Loop.{without_line}
use Rattle.quick_plan.proofs.Steps.{Landing}
use Rattle.quick_plan.proofs.land_period.Given as goal

abbrev pub invariant-loop : goal.invariant-loop
invariant-loop l = Landing (without_line (day_of l.day)) (next_cost l.next l.day.flights.now l.j) l.j (capacity (day_of l.day) l.j) l.initial.holds (l.end - l.counter) l.holds
