use Rattle.path.proofs.Listing.{filling_pass, filling_next, filling_end}
use Rattle.path.proofs.list_periods.Goals as goal
use Rattle.path.proofs.list_periods.Goals.{then-of_period-gt0, else-of_period-gt0}

pub loop-k-preserved : goal.loop-k-preserved
loop-k-preserved c = elim c.if-of_period-gt0.branch [
  | then-of_period-gt0 w ↦ rw (w.list-is, w.left-is) (filling_next c.loop-k.invariant c.loop-k-test.true c.of_period.ensures.0 w.if-of_period-gt0.true)
  | else-of_period-gt0 w ↦ rw (w.list-is, w.left-is) (filling_pass c.loop-k.invariant c.loop-k-test.true c.of_period.ensures.0 w.if-of_period-gt0.false)
]

pub returns : goal.returns
returns c = filling_end c.loop-k.invariant c.loop-k-test.false
