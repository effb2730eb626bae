-- The rate times the factor; of a rate of 32 bits it fits 64. Assumes nothing.
use native.Mathlib.Omega.{arith}
use Rattle.growth.specs.Growth.{further_cost}
use Rattle.growth.proofs.Laws.{further_low}
use Rattle.growth.proofs.further_cost.Goals as goal

pub overflow_mul-result : goal.overflow_mul-result
overflow_mul-result c = rw c.factor.ensures (omega (arith, further_low _ _ _ c.requires.1 c.requires.2 c.requires.3))

pub returns : goal.returns
unfolding further_cost
returns c = rw c.factor.ensures
