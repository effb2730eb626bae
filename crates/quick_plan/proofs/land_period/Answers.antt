use mathlib.Core.Path.{sym, ◌∙◌}
use native.Mathlib.Omega.{arith}
use Rattle.quick_plan.proofs.Same.{valid_rows}
use Rattle.quick_plan.proofs.Steps.{landing_start, landing_early, landing_stop, landing_flight, landing_more, landing_end}
use Rattle.quick_plan.proofs.land_period.Goals as goal

pub loop-init : goal.loop-init
loop-init c = landing_start _ (valid_rows _ c.args.day.good) c.requires.3 c.requires.0 (omega (arith, c.of_period-end.ensures))

pub returns-in_default : goal.returns-in_default
returns-in_default c = landing_stop c.loop.invariant (sym c.first_waiting.ensures ∙ c.in_default.is)

pub due_of-requires : goal.due_of-requires
due_of-requires c = (landing_flight c.loop.invariant (sym c.first_waiting.ensures ∙ c.in-Some.is)).1

pub overflow_sub-holds : goal.overflow_sub-holds
overflow_sub-holds c = omega (arith, c.due_of.ensures.0, (landing_flight c.loop.invariant (sym c.first_waiting.ensures ∙ c.in-Some.is)).2)

pub overflow_cast-holds : goal.overflow_cast-holds
overflow_cast-holds c = omega (arith, landing_early c.loop.invariant)

pub loop-preserved : goal.loop-preserved
loop-preserved c = landing_more c.loop.invariant (sym c.first_waiting.ensures ∙ c.in-Some.is) c.due_of.ensures.0 (omega arith)

pub returns : goal.returns
returns c = landing_end c.loop.invariant (omega arith)
