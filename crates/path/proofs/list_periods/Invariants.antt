-- The open periods before k are listed. Assumes nothing.
use Rattle.path.proofs.Listing.{Filling}
use Rattle.path.proofs.list_periods.Given as goal

abbrev pub invariant-loop-k : goal.invariant-loop-k
invariant-loop-k l = Filling l.capacities l.initial.list l.list l.first l.target l.left l.k
