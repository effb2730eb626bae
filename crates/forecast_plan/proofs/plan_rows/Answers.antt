-- The refusals in the order of the definition, then the plan.
-- Assumes nothing.
use mathlib.Core.Path.{sym, ◌∙◌}
use native.Mathlib.Omega.{arith}
use Rattle.day.specs.Checked.{day_of}
use Rattle.forecast_plan.proofs.Calls.{terms_to, entries_fit, all_fits}
use Rattle.forecast_plan.proofs.plan_rows.Goals as goal

pub overflow_mul-entries : goal.overflow_mul-entries
overflow_mul-entries c =
    omega (arith, entries_fit (day_of c.args.day) c.args.count c.args.odds.factor c.args.day.good c.requires)

pub forecasts_fit-requires : goal.forecasts_fit-requires
forecasts_fit-requires c =
    omega (arith, c.if-odds-count.false, (terms_to _ c.args.count c.args.odds.factor c.requires).1)

pub hold_flights-requires : goal.hold_flights-requires
hold_flights-requires c =
    (all_fits _ _ _ _ _ c.args.day.good c.requires c.if-odds-count.false c.if-odds-entries.false (sym c.forecasts_fit.ensures ∙ c.if-not-forecasts_fit.false), c.if-holds-n.false ∙ c.flight_count-n.ensures.0)
