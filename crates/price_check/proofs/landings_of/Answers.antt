-- Assumes nothing.
use native.Mathlib.Omega.{arith}
use Rattle.price_check.proofs.Laws.{counted_start, counted_place, counted_on, counted_off, counted_end}
use Rattle.price_check.proofs.landings_of.Goals as goal
use Rattle.price_check.proofs.landings_of.Goals.{then-land_of-k, else-land_of-k}

pub loop-i-init : goal.loop-i-init
loop-i-init c = counted_start c.requires

pub land_of-requires : goal.land_of-requires
land_of-requires c = (c.loop-i-test.true, counted_place c.loop-i.invariant c.loop-i-test.true)

pub overflow_add-count : goal.overflow_add-count
overflow_add-count c = omega (arith, c.loop-i.invariant.few)

pub loop-i-preserved : goal.loop-i-preserved
loop-i-preserved c = elim c.if-land_of-k.branch [
  | then-land_of-k w ↦ rw w.count-is (counted_on c.loop-i.invariant c.loop-i-test.true c.land_of.ensures.0 w.if-land_of-k.true)
  | else-land_of-k w ↦ rw w.count-is (counted_off c.loop-i.invariant c.loop-i-test.true c.land_of.ensures.0 w.if-land_of-k.false)
]

pub returns : goal.returns
returns c = counted_end c.loop-i.invariant c.loop-i-test.false
