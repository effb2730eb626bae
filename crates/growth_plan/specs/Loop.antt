-- The states of the loop over a hold row. Only inner contracts cite them.
-- Assumes nothing.
use Rattle.std.specs.Prelude.{List, ◌≡◌, ℕ, ◌≤◌, ◌<◌, length}
use Rattle.assignment.specs.Sum.{sum}
use Rattle.day.specs.Day.{most_flights, flight_count, rate_of, hold}
use Rattle.growth.specs.Growth.{most_growth, most_growth_periods, growth_cost}

-- a hold for each flight, and numbers in their ranges
pub record CanSum (a : ℕ) (flights holds : List ℕ) : Type 0 where
  pub grows : a ≤ most_growth
  pub each : length holds ≡ flight_count flights
  pub few : flight_count flights ≤ most_flights
  pub rates : (i : ℕ) → i < flight_count flights → rate_of flights i ≤ 10000
  pub short : (i : ℕ) → i < flight_count flights → hold holds i ≤ most_growth_periods

-- the costs of the flights before table place i are summed
pub record Summed (a : ℕ) (flights holds : List ℕ) (s i : ℕ) : Type 0 where
  pub can : CanSum a flights holds
  pub upto : i ≤ flight_count flights
  pub costs : s ≡ sum i (λ k. growth_cost a (rate_of flights k) (hold holds k))
