-- The periods passed cost the flight no less than its own. Assumes nothing.
use Rattle.price_check.proofs.Laws.{Bests}
use Rattle.day.specs.Checked.{day_of}
use Rattle.price_check.proofs.is_best.Given as goal

abbrev pub invariant-loop-k : goal.invariant-loop-k
invariant-loop-k l = Bests (day_of l.day) l.holds l.prices l.i l.k
