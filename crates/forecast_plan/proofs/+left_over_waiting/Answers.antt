-- The cycle of calls {left_over, waiting}: the period falls, and of the two at one period left over comes first. Each stores what it finds
-- on the way back, so that the row is known as far as the period asked for.
-- Assumes nothing.
use Rattle.std.proofs.Common.{◌-◌, arith}
use Rattle.forecast_plan.proofs.Turns.{none_left_over, waiting_here, waiting_most, turn_next}
use Rattle.forecast_plan.proofs.+left_over_waiting.Goals as goal

pub left_over-returns-then-j-eq0-clause-value : goal.left_over-returns-then-j-eq0-clause-value
left_over-returns-then-j-eq0-clause-value t c = none_left_over _ _ _ c.if-j-eq0.true

pub waiting-overflow_add-here : goal.waiting-overflow_add-here
waiting-overflow_add-here t c =
    let turn = c.requires.0 in
    omega (arith, turn.periods, turn.counts.few c.args.j, waiting_most _ c.args.forecast.now 128 turn.counts.few (c.args.j - 1), c.left_over.ensures.value)

pub waiting-returns-clause-value : goal.waiting-returns-clause-value
waiting-returns-clause-value t c = waiting_here _ _ c.args.j c.requires.1 c.left_over.ensures.value

pub waiting-returns-clause-turn : goal.waiting-returns-clause-turn
waiting-returns-clause-turn t c =
    let here = waiting_here _ _ c.args.j c.requires.1 c.left_over.ensures.value in
    turn_next c.left_over.ensures.turn c.args.j _ (omega arith) here c.requires.2
