-- The flights passed are counted where they land in the period.
-- Assumes nothing.
use Rattle.price_check.proofs.Laws.{Counted}
use Rattle.price_check.proofs.landings_of.Given as goal

abbrev pub invariant-loop-i : goal.invariant-loop-i
invariant-loop-i l = Counted l.flights l.holds l.k l.count l.i
