-- The flights behind `next` that land in k have offered; the chain of the period leads from one to the next. Assumes nothing.
use Rattle.path.proofs.Expanding.{ExpandingAll}
use Rattle.path.proofs.expand.Given as goal

abbrev pub invariant-loop-next : goal.invariant-loop-next
invariant-loop-next l = ExpandingAll l.flights l.places l.links l.prices l.list l.initial.dist l.dist l.initial.via l.via l.left l.target l.k l.from l.price l.next

abbrev pub decreases-loop-next : goal.decreases-loop-next
decreases-loop-next l = l.next
