-- What stands before the place in the list has been offered; an offer that is no nearer than the target is the last. Assumes nothing.
use Rattle.path.proofs.Offering.{Offering}
use Rattle.path.proofs.offer.Given as goal

abbrev pub invariant-loop-z : goal.invariant-loop-z
invariant-loop-z l = Offering l.f l.o l.prices l.list l.initial.dist l.dist l.initial.via l.via l.left l.target l.due l.last l.goal l.z
