-- Flights that land in periods that were reached earlier have not moved yet; fewer and fewer are left to move. Assumes nothing.
use Prim.Native.Nat.{suc}
use Rattle.assignment.specs.Rows.{el}
use Rattle.day.specs.Day.{period_row}
use Rattle.path.specs.Path.{landing}
use Rattle.insertion.proofs.Steps.{hops, Walking}
use Rattle.insertion.proofs.walk.Given as goal

abbrev pub invariant-loop-from : goal.invariant-loop-from
invariant-loop-from l = Walking l.flights l.initial.places l.places l.initial.holds l.holds l.via l.n l.target l.at l.place l.from

abbrev pub decreases-loop-from : goal.decreases-loop-from
decreases-loop-from l = hops (suc period_row) (landing l.flights l.initial.places l.initial.holds) (el l.via) l.n l.at
