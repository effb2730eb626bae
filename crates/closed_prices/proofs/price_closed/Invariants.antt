-- The closed periods looked at so far have their prices. Assumes nothing.
use Rattle.day.specs.Day.{day, unlimited}
use Rattle.closed_prices.proofs.Pricing.{Closing}
use Rattle.closed_prices.proofs.price_closed.Given as goal

abbrev pub invariant-loop-at : goal.invariant-loop-at
invariant-loop-at l = Closing (day l.capacities l.flights unlimited) l.holds l.initial.prices l.prices l.at
