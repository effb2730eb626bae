use native.Mathlib.Omega.{arith}
use Rattle.growth_plan.proofs.Sums.{summed_start, summed_there, summed_next, summed_fits, summed_end}
use Rattle.growth_plan.proofs.total_in_millionths.Goals as goal

pub loop-i-init : goal.loop-i-init
loop-i-init c = summed_start _ c.requires

pub rate_of-requires : goal.rate_of-requires
rate_of-requires c = summed_there c.loop-i.invariant (omega arith)

pub overflow_add-sum : goal.overflow_add-sum
overflow_add-sum c =
    omega (arith, summed_fits c.loop-i.invariant (omega arith) c.rate_of.ensures.0 c.growth_cost-sum.ensures)

pub loop-i-preserved : goal.loop-i-preserved
loop-i-preserved c =
    summed_next c.loop-i.invariant (omega arith) c.rate_of.ensures.0 c.growth_cost-sum.ensures

pub returns : goal.returns
returns c = summed_end c.loop-i.invariant (omega arith)
