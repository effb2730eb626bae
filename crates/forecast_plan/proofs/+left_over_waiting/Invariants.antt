-- The cycle of calls {left_over, waiting}: the period falls, and of the two at one period left over comes first. Each stores what it finds
-- on the way back, so that the row is known as far as the period asked for.
-- Assumes nothing.
use Rattle.std.proofs.Common.{◌+◌, ◌*◌}
use Rattle.forecast_plan.proofs.+left_over_waiting.Given as goal

abbrev pub decreases-left_over : goal.decreases-left_over
decreases-left_over l = 2 * l.j + 1

abbrev pub decreases-waiting : goal.decreases-waiting
decreases-waiting l = 2 * l.j
