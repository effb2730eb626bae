use native.Mathlib.Omega.{arith}
use Rattle.forecast_plan.proofs.Choosing.{chooses_none, chooses_longer, chooses_stays}
use Rattle.forecast_plan.proofs.least_hold.Goals as goal
use Rattle.forecast_plan.proofs.least_hold.Goals.{then-cost-best, else-cost-best}

pub loop-hold-init : goal.loop-hold-init
loop-hold-init c = chooses_none c.cost_in.ensures

pub loop-hold-preserved : goal.loop-hold-preserved
loop-hold-preserved c = elim c.if-cost-best.branch [
  | then-cost-best w ↦ rw w.best-is (chooses_longer c.loop-hold.invariant (omega arith) c.cost_in-cost.ensures w.if-cost-best.true)
  | else-cost-best w ↦ rw w.best-is (chooses_stays c.loop-hold.invariant (omega arith) c.cost_in-cost.ensures w.if-cost-best.false)
]
