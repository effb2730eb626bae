-- The price is the least for the flights looked at so far. Assumes nothing.
use Rattle.closed_prices.proofs.Pricing.{Pricing}
use Rattle.closed_prices.proofs.least_price.Given as goal

abbrev pub invariant-loop-i : goal.invariant-loop-i
invariant-loop-i l = Pricing l.periods l.flights l.holds l.prices l.k l.price l.i
