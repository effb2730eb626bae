use native.Mathlib.Omega.{arith}
use mathlib.Core.Path.{◌∙◌}
use Rattle.quick_plan.proofs.NextCosts.{fits_to}
use Rattle.quick_plan.proofs.Same.{valid_rows}
use Rattle.quick_plan.proofs.Steps.{planned_start, planned_next, planned_end}
use Rattle.quick_plan.proofs.plan_to.Goals as goal

pub loop-j-init : goal.loop-j-init
loop-j-init c = (omega arith, planned_start _ (valid_rows _ c.args.day.good) (c.start_row.auto.holds ∙ c.requires.0) c.start_row.ensures)

pub land_period-requires : goal.land_period-requires
land_period-requires c = (c.loop-j.invariant.1.rows, c.factor_table-factors.ensures, fits_to _ (omega arith) c.requires.1, omega arith)

pub loop-j-preserved : goal.loop-j-preserved
loop-j-preserved c = (omega arith, planned_next c.loop-j.invariant.1 c.loop-j.auto.j c.land_period.auto.holds c.land_period.ensures)

pub returns-2 : goal.returns-2
returns-2 c = planned_end (planned_next c.loop-j.invariant.1 c.loop-j.auto.j c.land_period.auto.holds c.land_period.ensures) (omega arith) (omega arith)
