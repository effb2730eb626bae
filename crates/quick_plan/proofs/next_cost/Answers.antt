-- The rate, or the rate times the factor of the periods since the due. Assumes nothing.
use native.Mathlib.Omega.{arith}
use Rattle.quick_plan.proofs.NextCosts.{next_rate, growing_within, next_growing}
use Rattle.quick_plan.proofs.next_cost.Goals as goal

pub further_cost-requires : goal.further_cost-requires
further_cost-requires c =
    let w = growing_within c.args.flights.now c.args.j c.args.i c.in-Growing.is c.requires.1 in
    (c.requires.0, w.0, c.rate_of-rate.ensures.1, omega (arith, w.1, c.requires.2.from, c.due_of.ensures.0))

pub returns-in-Rate : goal.returns-in-Rate
returns-in-Rate c =
    next_rate _ _ _ c.in-Rate.is c.rate_of-rate.ensures.0

pub returns-in-Growing : goal.returns-in-Growing
returns-in-Growing c =
    next_growing _ _ _ c.in-Growing.is c.rate_of-rate.ensures.0 c.due_of.ensures.0 c.further_cost.ensures
