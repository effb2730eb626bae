-- The costs of the flights passed are summed.
-- Assumes nothing.
use Rattle.legality.specs.Loop.{Summed}
use Rattle.legality.proofs.total_of.Given as goal

abbrev pub invariant-loop-i : goal.invariant-loop-i
invariant-loop-i l = Summed l.flights l.holds l.sum l.i
