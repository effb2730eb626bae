-- The flights passed are chained, and have numbers of their own.
-- Assumes nothing.
use Rattle.day.specs.Chains.{Passed}
use Rattle.day.proofs.numbers_differ_in.Given as goal

abbrev pub invariant-loop-i : goal.invariant-loop-i
invariant-loop-i l = Passed l.flights l.n l.nearest l.above l.i
