-- The report's example, section 3.2.2, "flights entered from its 4 down to its 1 and K 2": what the call comes to, with the odds as they are
-- and reversed, whatever the hold row was.
-- Assumes nothing.
use Rattle.std.proofs.Common.{Ok}
use mathlib.Core.Path.{◌≡◌, refl}
use mathlib.Core.List.{[], ◌∷◌}
use Prim.Native.Nat.{ℕ}
use Rattle.assignment.specs.Sum.{sum, count}
use Rattle.answers.specs.Answers.{outcome}
use Rattle.day.specs.Day.{Day, day, unlimited, flight_at, flight_count, latest_of, last_of, all, flight_fits, is_new, valid}
use Rattle.forecast_plan.specs.Forecast.{Forecasts, waiting, first_room, expected, least_hold, holds_to, expected_total}
use Rattle.forecast_plan.specs.Calls.{terms_fit, forecasts_fit, rows_plan, forecast_plan}

-- its four flights; the capacities of the day itself play no part
abbrev pub report_day : Day
report_day =
    day
    (0 ∷ 0 ∷ 0 ∷ 0 ∷ [])
    (4 ∷ 2 ∷ 10 ∷ 0 ∷ 0 ∷ 255 ∷ 0 ∷ 3 ∷ 1 ∷ 5 ∷ 0 ∷ 0 ∷ 255 ∷ 0 ∷ 2 ∷ 1 ∷ 10 ∷ 0 ∷ 0 ∷ 255 ∷ 0 ∷ 1 ∷ 3 ∷ 10 ∷ 0 ∷ 0 ∷ 255 ∷ 0 ∷ [])
    unlimited

-- capacity 1 in each period, or 2, by these odds
abbrev pub odds : ℕ → ℕ → Forecasts
odds one two = record { count = 2; air_factor = 2; weights = one ∷ two ∷ []; rows = 1 ∷ 1 ∷ 1 ∷ 1 ∷ 2 ∷ 2 ∷ 2 ∷ 2 ∷ [] }

module _ (a b c e : ℕ) where
  -- "totals 24,000 thousandths"
  pub report : forecast_plan report_day (odds 400 600) (a ∷ b ∷ c ∷ e ∷ []) ≡ outcome (Ok 24000) (0 ∷ 0 ∷ 0 ∷ 0 ∷ [])
  unfolding sum count flight_at flight_count latest_of last_of all flight_fits is_new valid waiting first_room expected least_hold holds_to expected_total terms_fit forecasts_fit rows_plan forecast_plan
  report = refl

  -- "and 30,000 with the odds reversed"
  pub reversed : forecast_plan report_day (odds 600 400) (a ∷ b ∷ c ∷ e ∷ []) ≡ outcome (Ok 30000) (0 ∷ 0 ∷ 2 ∷ 1 ∷ [])
  unfolding sum count flight_at flight_count latest_of last_of all flight_fits is_new valid waiting first_room expected least_hold holds_to expected_total terms_fit forecasts_fit rows_plan forecast_plan
  reversed = refl
