use native.Mathlib.Omega.{arith}
use Rattle.quick_plan.proofs.Same.{valid_rows}
use Rattle.quick_plan.proofs.Steps.{started_none, started_periods, started_there, started_more}
use Rattle.quick_plan.proofs.start_row.Goals as goal

pub loop-i-init : goal.loop-i-init
loop-i-init c = started_none (valid_rows _ c.args.day.good) c.requires

pub due_of-requires : goal.due_of-requires
due_of-requires c = started_there c.loop-i.invariant (omega arith)

pub overflow_sub-hold : goal.overflow_sub-hold
overflow_sub-hold c = omega (arith, c.due_of.ensures.1)

pub overflow_cast-hold : goal.overflow_cast-hold
overflow_cast-hold c = omega (arith, started_periods c.loop-i.invariant)

pub loop-i-preserved : goal.loop-i-preserved
loop-i-preserved c = started_more c.loop-i.invariant (omega arith) c.due_of.ensures.0
