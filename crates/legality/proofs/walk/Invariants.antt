-- The flights passed break nothing, and their landings are counted by period.
-- Assumes nothing.
use Rattle.day.specs.Checked.{day_of}
use Rattle.legality.specs.Loop.{Walked}
use Rattle.legality.proofs.walk.Given as goal

abbrev pub invariant-loop-place : goal.invariant-loop-place
invariant-loop-place l = Walked (day_of l.day) l.holds l.loads l.place
