-- The loop keeps the first of the flights looked at that wait; a flight that waits takes its place where it goes before it.
-- Assumes nothing.
use Rattle.day.specs.Checked.{day_of}
use Rattle.quick_plan.specs.NextCost.{next_cost}
use Rattle.quick_plan.specs.Loop.{without_line}
use Rattle.quick_plan.proofs.Steps.{Scan}
use Rattle.quick_plan.proofs.first_waiting.Given as goal

abbrev pub invariant-loop-place : goal.invariant-loop-place
invariant-loop-place l = Scan (without_line (day_of l.day)) (next_cost l.next l.day.flights.now l.j) l.holds l.j l.place l.best
