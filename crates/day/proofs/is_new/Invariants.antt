-- The walk up the chain passes flights of other numbers.
-- Assumes nothing.
use Rattle.day.proofs.Chains.{Walking}
use Rattle.day.proofs.is_new.Given as goal

abbrev pub invariant-loop-entry : goal.invariant-loop-entry
invariant-loop-entry l = Walking l.flights l.nearest l.above l.i l.number l.entry

abbrev pub decreases-loop-entry : goal.decreases-loop-entry
decreases-loop-entry l = l.entry
