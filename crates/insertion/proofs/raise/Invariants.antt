-- The periods before k have their new prices; outside the searched periods nothing is nearer than the target. Assumes nothing.
use Rattle.insertion.proofs.Steps.{Raising}
use Rattle.insertion.proofs.raise.Given as goal

abbrev pub invariant-loop-k : goal.invariant-loop-k
invariant-loop-k l = Raising l.initial.prices l.prices l.dist l.first l.target l.k
