use Rattle.forecast_plan.proofs.Refreshing.{refreshed_one, refreshed_next}
use Rattle.forecast_plan.proofs.refresh.Goals as goal

pub refresh_one-requires : goal.refresh_one-requires
refresh_one-requires c = refreshed_one c.loop-s.invariant c.loop-s-test.true c.forecast_at-forecast.ensures

pub loop-s-preserved : goal.loop-s-preserved
loop-s-preserved c =
    refreshed_next c.loop-s.invariant c.loop-s-test.true c.forecast_at-forecast.ensures c.refresh_one.ensures
