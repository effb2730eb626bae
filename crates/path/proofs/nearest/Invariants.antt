-- Of the places looked at so far, none has a nearer period than the best; the target is the first best. Assumes nothing.
use Rattle.path.proofs.Scan.{Scan}
use Rattle.path.proofs.nearest.Given as goal

abbrev pub invariant-loop-z : goal.invariant-loop-z
invariant-loop-z l = Scan l.dist l.list l.left l.target l.level l.best l.at l.z
