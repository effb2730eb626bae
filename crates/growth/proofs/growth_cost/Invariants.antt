-- The sum is the cost of the periods so far. Assumes nothing.
use mathlib.Core.Path.{◌≡◌}
use Rattle.growth.specs.Growth.{growth_cost}
use Rattle.growth.proofs.growth_cost.Given as goal

abbrev pub invariant-loop-t : goal.invariant-loop-t
invariant-loop-t l = l.sum ≡ growth_cost l.growth l.rate l.t
