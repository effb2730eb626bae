-- n flights are placed at the cost that was added up. Assumes nothing.
use Rattle.day.specs.Checked.{open_day}
use Rattle.insertion.proofs.Building.{Building}
use Rattle.insertion.proofs.insert_all.Given as goal

abbrev pub invariant-loop-n : goal.invariant-loop-n
invariant-loop-n l = Building (open_day l.day) l.places l.holds l.prices l.loads l.links l.dist l.via l.total l.n
