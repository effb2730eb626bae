-- Each cost fits, and so do 128 of them.
-- Assumes nothing.
use native.Mathlib.Omega.{arith}
use Rattle.legality.proofs.Laws.{sum_start, sum_fits, cost_fits, sum_next, sum_end}
use Rattle.legality.proofs.total_of.Goals as goal

pub loop-i-init : goal.loop-i-init
loop-i-init c = sum_start c.requires

pub overflow_add-sum : goal.overflow_add-sum
overflow_add-sum c = omega (arith, sum_fits c.loop-i.invariant, cost_fits c.loop-i.invariant c.loop-i-test.true (omega arith) c.cost_of-sum.ensures)

pub loop-i-preserved : goal.loop-i-preserved
loop-i-preserved c = sum_next c.loop-i.invariant c.loop-i-test.true (omega arith) c.cost_of-sum.ensures

pub returns : goal.returns
returns c = sum_end c.loop-i.invariant c.loop-i-test.false
