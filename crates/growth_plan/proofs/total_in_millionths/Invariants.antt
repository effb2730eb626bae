-- The sum is that of the flights so far. Assumes nothing.
use Rattle.growth_plan.specs.Loop.{Summed}
use Rattle.growth_plan.proofs.total_in_millionths.Given as goal

abbrev pub invariant-loop-i : goal.invariant-loop-i
invariant-loop-i l = Summed l.growth l.flights l.holds l.sum l.i
