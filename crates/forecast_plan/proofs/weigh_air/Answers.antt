use mathlib.Core.Path.{refl}
use Rattle.forecast_plan.proofs.Air.{weighed_adding, weighed_next}
use Rattle.forecast_plan.proofs.weigh_air.Goals as goal

pub add_air-requires : goal.add_air-requires
add_air-requires c =
    weighed_adding c.loop-s.invariant c.loop-s-test.true c.forecast_at-forecast.ensures refl

pub loop-s-preserved : goal.loop-s-preserved
loop-s-preserved c =
    weighed_next c.loop-s.invariant c.loop-s-test.true c.forecast_at-forecast.ensures refl c.add_air.ensures
