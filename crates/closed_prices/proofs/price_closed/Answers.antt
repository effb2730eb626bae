use native.Mathlib.Omega.{arith}
use Rattle.closed_prices.proofs.Pricing.{closing_pass, closing_pay, closing_small, closing_next}
use Rattle.closed_prices.proofs.price_closed.Goals as goal
use Rattle.closed_prices.proofs.price_closed.Goals.{then-capacity-eq0, else-capacity-eq0}

pub least_price-requires : goal.least_price-requires
least_price-requires c = closing_pay c.loop-at.invariant c.loop-at-test.true

pub overflow_cast-prices : goal.overflow_cast-prices
overflow_cast-prices c = omega (arith, closing_small c.loop-at.invariant c.loop-at-test.true c.least_price.ensures)

pub loop-at-preserved : goal.loop-at-preserved
loop-at-preserved c = elim c.if-capacity-eq0.branch [
  | then-capacity-eq0 w ↦ rw w.prices-is (closing_next c.loop-at.invariant c.loop-at-test.true w.least_price.ensures w.if-capacity-eq0.true)
  | else-capacity-eq0 w ↦ rw w.prices-is (closing_pass c.loop-at.invariant c.loop-at-test.true w.if-capacity-eq0.false)
]
