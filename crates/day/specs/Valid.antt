-- A day that passes the check, in propositions: proofs/Valid has that it says what `valid` does, in both directions. Only inner contracts
-- cite it.
-- Assumes nothing.
use Rattle.std.specs.Prelude.{◌≡◌, ◌⊎◌, ◌≢◌, ℕ, ◌*◌, ◌≤◌, ◌<◌, List, length, get_or}
use Rattle.day.specs.Day.{Day, P, N, unlimited, most_periods, most_flights, flight_count, number, width, after_of, due_of, jump_of, late_of, limit_of, number_of, rate_of}

-- the numbers of the flight at table place i of a row, on a day of p periods
pub record InRange (p : ℕ) (flights : List ℕ) (i : ℕ) : Type 0 where
  pub number_from : 1 ≤ number_of flights i
  pub number_to : number_of flights i ≤ 9999
  pub due_from : 1 ≤ due_of flights i
  pub due_to : due_of flights i ≤ p
  pub rate_from : 1 ≤ rate_of flights i
  pub rate_to : rate_of flights i ≤ 10000
  pub after_to : after_of flights i ≤ 96
  pub jump_to : jump_of flights i ≤ 1000000
  pub limit_to : (limit_of flights i ≤ 96) ⊎ (limit_of flights i ≡ 255)
  pub late_to : late_of flights i ≤ 255

-- the row of flights of such a day, for whoever reads no more of it
pub record ValidFlights (p : ℕ) (flights : List ℕ) : Type 0 where
  pub periods_to : p ≤ most_periods
  pub whole : length flights ≡ flight_count flights * width
  pub flights_to : flight_count flights ≤ most_flights
  pub flight : (i : ℕ) → i < flight_count flights → InRange p flights i

pub record Valid (d : Day) : Type 0 where
  pub periods_from : 1 ≤ P d
  pub periods_to : P d ≤ most_periods
  pub whole : length d.flights ≡ N d * width
  pub flights_to : N d ≤ most_flights
  pub closing_to : d.closing ≤ unlimited
  pub capacity_to : (k : ℕ) → k < P d → get_or d.capacities k 0 ≤ 255
  pub flight : (i : ℕ) → i < N d → InRange (P d) d.flights i
  pub distinct : (i j : ℕ) → i < N d → j < i → number d j ≢ number d i
