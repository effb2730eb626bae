-- The invariant is the search itself; each turn reaches the first period of the queue, and where that was the last, the next level goes to it.
-- Were the target far at the end, a stretch would be short. Assumes nothing.
use Prim.Native.Nat.{◌-◌}
use Rattle.day.specs.Checked.{open_day}
use Rattle.path.proofs.Expanding.{FindingAll}
use Rattle.path.proofs.find_path.Given as goal

abbrev pub invariant-loop-t : goal.invariant-loop-t
invariant-loop-t l = FindingAll (open_day l.day) l.places l.links l.prices l.list l.queue l.dist l.via l.n l.all l.left l.target l.t

abbrev pub decreases-loop-t : goal.decreases-loop-t
decreases-loop-t l = l.all - l.t
