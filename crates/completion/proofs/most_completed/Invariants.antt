-- The holds that are left, one more than the loop tries next, cannot be completed.
-- Assumes nothing.
use Rattle.day.specs.Checked.{day_of}
use Rattle.completion.proofs.Steps.{Tried}
use Rattle.completion.proofs.most_completed.Given as goal

abbrev pub invariant-loop-m : goal.invariant-loop-m
invariant-loop-m l = Tried (day_of l.day) l.holds l.left l.m l.i
