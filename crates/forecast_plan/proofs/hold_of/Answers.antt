-- The least hold by the row of weighed periods in the air.
-- Assumes nothing.
use mathlib.Core.Path.{refl}
use Rattle.forecast_plan.proofs.Holding.{ready_none, ready_low, ready_chooses}
use Rattle.forecast_plan.proofs.hold_of.Goals as goal

pub weigh_air-requires : goal.weigh_air-requires
weigh_air-requires c = ready_none c.requires refl

pub least_hold-requires : goal.least_hold-requires
least_hold-requires c =
    ready_low c.requires refl c.last_of.ensures c.weigh_air.ensures

pub returns : goal.returns
returns c =
    ready_chooses c.requires refl c.last_of.ensures c.weigh_air.ensures c.least_hold.ensures
