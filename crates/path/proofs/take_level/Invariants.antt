-- Of the places looked at, what is as near as the level stands in the queue, and the rest before `kept`. Assumes nothing.
use Rattle.path.proofs.Listing.{Levelling}
use Rattle.path.proofs.take_level.Given as goal

abbrev pub invariant-loop-z : goal.invariant-loop-z
invariant-loop-z l = Levelling l.dist l.initial.list l.list l.initial.queue l.queue l.at l.left l.target l.queued l.level l.kept l.end l.z
