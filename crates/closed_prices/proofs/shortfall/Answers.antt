-- Outside of its window a flight needs no price; inside, the difference. Assumes nothing.
use Rattle.closed_prices.proofs.Pricing.{out_early, out_late, pay_rest}
use Rattle.closed_prices.proofs.shortfall.Goals as goal
use Rattle.closed_prices.proofs.shortfall.Goals.{then-k-due-via-then-k-due, then-k-due-via-else-k-due+then-latest_of-k}

pub returns-then-k-due : goal.returns-then-k-due
returns-then-k-due c = elim c.then-k-due.branch [
  | then-k-due-via-then-k-due w ↦ out_early c.requires.can_pay c.requires.i_bound c.flight_at-f.ensures w.if-k-due.true
  | then-k-due-via-else-k-due+then-latest_of-k w ↦ out_late c.requires.can_pay c.requires.i_bound c.flight_at-f.ensures w.latest_of.ensures w.if-latest_of-k.true
]

pub returns : goal.returns
returns c =
    rw c.saturating_sub.ensures (pay_rest c.requires.can_pay c.requires.i_bound c.flight_at-f.ensures c.latest_of.ensures c.if-k-due.false c.if-latest_of-k.false
    c.hold_cost.ensures c.of_period.ensures.0 c.hold_cost-2.ensures)
