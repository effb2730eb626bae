use native.Mathlib.Omega.{arith}
use Prim.Native.Nat.{◌+◌}
use Rattle.growth.proofs.Laws.{growth_start, growth_next, growth_low}
use Rattle.growth.proofs.growth_cost.Goals as goal

pub loop-t-init : goal.loop-t-init
loop-t-init c = growth_start _ _

pub overflow_add-sum : goal.overflow_add-sum
overflow_add-sum c =
    omega (
      arith,
      growth_next _ _ _ c.loop-t.invariant c.further_cost-sum.ensures,
      growth_low c.args.growth c.args.rate (c.loop-t.t + 1) c.requires.1 c.requires.2 (omega arith),
    )

pub loop-t-preserved : goal.loop-t-preserved
loop-t-preserved c = growth_next _ _ _ c.loop-t.invariant c.further_cost-sum.ensures
