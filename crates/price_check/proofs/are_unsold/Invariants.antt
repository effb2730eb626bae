-- The periods passed are full or have no price.
-- Assumes nothing.
use Rattle.day.specs.Checked.{day_of}
use Rattle.price_check.proofs.Laws.{UnsoldTo}
use Rattle.price_check.proofs.are_unsold.Given as goal

abbrev pub invariant-loop-k : goal.invariant-loop-k
invariant-loop-k l = UnsoldTo (day_of l.day) l.holds l.prices l.k
