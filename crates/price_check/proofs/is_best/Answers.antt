-- Assumes nothing.
use mathlib.Core.Path.{refl}
use native.Mathlib.Omega.{arith}
use Rattle.answers.proofs.Decides.{say_yes, say_no}
use Rattle.day.proofs.Valid.{valid_means}
use Rattle.day.proofs.Flights.{due_read}
use Rattle.price_check.proofs.Laws.{cost_made, here_made, last_made, here_cost, there_made, best_near, best_fits, best_next, best_not, best_end}
use Rattle.price_check.proofs.is_best.Goals as goal

pub flight_at-flight-requires : goal.flight_at-flight-requires
flight_at-flight-requires c = omega (arith, c.requires.legal_plan.each, c.requires.i_bound)

pub overflow_add-here : goal.overflow_add-here
overflow_add-here c = omega (arith, c.of_period.ensures.1, cost_made _ _ _ c.flight_at-flight.ensures _ c.hold_cost.ensures, here_cost c.args.day.good c.requires.legal_plan c.requires.i_bound)

pub last_of-last-requires : goal.last_of-last-requires
last_of-last-requires c = (valid_means c.args.day.good).periods_to

pub loop-k-init : goal.loop-k-init
loop-k-init c =
    let due_is = due_read _ _ _ c.flight_at-flight.ensures in
    record { good = c.args.day.good; legal = c.requires.legal_plan; place = c.requires.i_bound; from = omega (arith, due_is); passed = λ j a b. absurd (omega (arith, due_is)) }

pub hold_cost-requires-in-loop-k : goal.hold_cost-requires-in-loop-k
hold_cost-requires-in-loop-k c = omega (arith, best_near c.loop-k.invariant (rw (last_made _ _ _ c.flight_at-flight.ensures _ c.last_of-last.ensures) at c.loop-k-test.true))

pub overflow_add-hold_cost : goal.overflow_add-hold_cost
overflow_add-hold_cost c = omega (arith, c.of_period-in-loop-k.ensures.1, best_fits c.loop-k.invariant (due_read _ _ _ c.flight_at-flight.ensures) (cost_made _ _ _ c.flight_at-flight.ensures _ c.hold_cost-in-loop-k.ensures) (rw (last_made _ _ _ c.flight_at-flight.ensures _ c.last_of-last.ensures) at c.loop-k-test.true))

pub returns-then-hold_cost-of_period : goal.returns-then-hold_cost-of_period
returns-then-hold_cost-of_period c =
    say_no (best_not c.loop-k.invariant (rw (last_made _ _ _ c.flight_at-flight.ensures _ c.last_of-last.ensures) at c.loop-k-test.true) (here_made _ _ _ c.flight_at-flight.ensures c.args.holds.now c.args.prices.now refl refl c.hold_cost.ensures c.of_period.ensures.0)
    (there_made c.loop-k.invariant (due_read _ _ _ c.flight_at-flight.ensures) (cost_made _ _ _ c.flight_at-flight.ensures _ c.hold_cost-in-loop-k.ensures) c.of_period-in-loop-k.ensures.0) c.if-hold_cost-of_period.true)

pub loop-k-preserved : goal.loop-k-preserved
loop-k-preserved c =
    best_next c.loop-k.invariant (here_made _ _ _ c.flight_at-flight.ensures c.args.holds.now c.args.prices.now refl refl c.hold_cost.ensures c.of_period.ensures.0)
    (there_made c.loop-k.invariant (due_read _ _ _ c.flight_at-flight.ensures) (cost_made _ _ _ c.flight_at-flight.ensures _ c.hold_cost-in-loop-k.ensures) c.of_period-in-loop-k.ensures.0) c.if-hold_cost-of_period.false

pub returns : goal.returns
returns c = say_yes (best_end c.loop-k.invariant (rw (last_made _ _ _ c.flight_at-flight.ensures _ c.last_of-last.ensures) at c.loop-k-test.false))

pub returns-else-hold_cost-of_period : goal.returns-else-hold_cost-of_period
returns-else-hold_cost-of_period c =
    say_yes (best_end (best_next c.loop-k.invariant (here_made _ _ _ c.flight_at-flight.ensures c.args.holds.now c.args.prices.now refl refl c.hold_cost.ensures c.of_period.ensures.0)
    (there_made c.loop-k.invariant (due_read _ _ _ c.flight_at-flight.ensures) (cost_made _ _ _ c.flight_at-flight.ensures _ c.hold_cost-in-loop-k.ensures) c.of_period-in-loop-k.ensures.0) c.if-hold_cost-of_period.false)
    (omega (arith, last_made _ _ _ c.flight_at-flight.ensures _ c.last_of-last.ensures)))
