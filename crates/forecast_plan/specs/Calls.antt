-- What the forecast plan answers, by cases in document 02's order of refusals, "tested in the order 6, 13, 7, 12", and the hold row after it.
-- Assumes nothing.
use Rattle.std.specs.Prelude.{Bool, cond, not, ◌&&◌, List, ℕ, ◌*◌, length, get_or, eqb, Ok, Err}
use Rattle.assignment.specs.Sum.{sum}
use Rattle.answers.specs.Answers.{Outcome, outcome}
use Rattle.answers.specs.declared.Refusal.TheVariants.{BadDay, BadLength, BadForecasts, BadTerms}
use Rattle.day.specs.Day.{Day, P, N, jump_of, flight_count, all, inside, capacities_fit, has_line, valid}
use Rattle.forecast_plan.specs.Forecast.{Forecasts, forecast_holds, expected_total}

-- no flight of the row has "a jump above 0"
abbrev pub no_jumps : List ℕ → Bool
no_jumps flights = all (flight_count flights) (λ i. eqb (jump_of flights i) 0)

-- what 13 tests: "a jump is above 0 or K or the count of forecasts (1 to 8) is out of range"
unfoldable pub terms_fit : (flights : List ℕ) (count air_factor : ℕ) → Bool
unfolding all flight_count
terms_fit flights count air_factor = no_jumps flights && inside 1 10 air_factor && inside 1 8 count

-- what the weights add up to
abbrev pub all_weights : List ℕ → ℕ
all_weights weights = sum (length weights) (λ s. get_or weights s 0)

-- what 12 tests: "weights don't add up to 1,000 or a forecast capacity is above 255"
unfoldable pub forecasts_fit : (weights rows : List ℕ) → Bool
unfolding all sum
forecasts_fit weights rows = eqb (all_weights weights) 1000 && capacities_fit rows

-- 7 "tests hold, weight, forecast row"; then 12; else the plan
unfoldable pub rows_plan : Day → Forecasts → List ℕ → Outcome
rows_plan d f holds =
    cond (not (eqb (length holds) (N d))) (outcome (Err (BadLength (N d))) holds)
    (cond (not (eqb (length f.weights) f.count)) (outcome (Err (BadLength f.count)) holds)
    (cond (not (eqb (length f.rows) (f.count * P d))) (outcome (Err (BadLength (f.count * P d))) holds)
    (cond (not (forecasts_fit f.weights f.rows)) (outcome (Err BadForecasts) holds)
    (outcome (Ok (expected_total d f (forecast_holds d f))) (forecast_holds d f)))))

-- the forecast plan: refusals leave the row as it was; "a day with the line gets 13" (#108)
unfoldable pub forecast_plan : Day → Forecasts → List ℕ → Outcome
forecast_plan d f holds =
    cond (not (valid d)) (outcome (Err BadDay) holds)
    (cond (has_line d.closing) (outcome (Err BadTerms) holds)
    (cond (not (terms_fit d.flights f.count f.air_factor)) (outcome (Err BadTerms) holds)
    (rows_plan d f holds)))
