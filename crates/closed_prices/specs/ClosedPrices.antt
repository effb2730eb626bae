-- What the prices of closed periods are. Only inner contracts cite it.
-- Assumes nothing.
use Rattle.std.specs.Prelude.{◌≡◌, ◌⊎◌, List, ℕ, ◌+◌, ◌-◌, ◌≤◌, ◌<◌, length}
use Rattle.day.specs.Day.{Day, P, N, flight_at, flight_count, of_period, hold_cost, latest_of, capacity, hold, land, due_of}
use Rattle.day.specs.Valid.{ValidFlights}

-- what the flight at table place i pays where it lands
abbrev pub paid : (flights holds prices : List ℕ) → ℕ → ℕ
paid flights holds prices i = hold_cost (flight_at flights i) (hold holds i) + of_period prices (due_of flights i + hold holds i)

-- what it costs to land in period k
abbrev pub cost_in : List ℕ → ℕ → ℕ → ℕ
cost_in flights i k = hold_cost (flight_at flights i) (k - due_of flights i)

-- it may land in period k, one of the p periods of the day
pub record Reaches (p : ℕ) (flights : List ℕ) (i k : ℕ) : Type 0 where
  pub from : due_of flights i ≤ k
  pub limited : k ≤ latest_of p (flight_at flights i)

-- the flights of a day of p periods that passes the check, and what they pay
pub record CanPay (p : ℕ) (flights holds prices : List ℕ) (k : ℕ) : Type 0 where
  pub valid : ValidFlights p flights
  pub holds_row : length holds ≡ flight_count flights
  pub few : (i : ℕ) → i < flight_count flights → due_of flights i + hold holds i ≤ p + 1
  pub low : (i : ℕ) → i < flight_count flights → paid flights holds prices i ≤ 4294967295
  pub period : k ≤ p

-- with price r, flight i pays no less in period k; r is no higher than that
pub record Shortfall (p : ℕ) (flights holds prices : List ℕ) (i k r : ℕ) : Type 0 where
  pub high : Reaches p flights i k → paid flights holds prices i ≤ cost_in flights i k + r
  pub low : (r ≡ 0) ⊎ (Reaches p flights i k × (cost_in flights i k + r ≡ paid flights holds prices i))

-- flight `by` would gain by a lower price r
pub record Sets (p : ℕ) (flights holds prices : List ℕ) (n k r : ℕ) : Type 0 where
  pub by : ℕ
  pub who : by < n
  pub reaches : Reaches p flights by k
  pub tie : cost_in flights by k + r ≡ paid flights holds prices by

-- the same of all flights
pub record LeastPrice (p : ℕ) (flights holds prices : List ℕ) (k r : ℕ) : Type 0 where
  pub high : (i : ℕ) → i < flight_count flights → Reaches p flights i k → paid flights holds prices i ≤ cost_in flights i k + r
  pub low : (r ≡ 0) ⊎ Sets p flights holds prices (flight_count flights) k r

-- nobody lands in a closed period
pub record CanPrice (d : Day) (holds prices : List ℕ) : Type 0 where
  pub can : (k : ℕ) → k ≤ P d → CanPay (P d) d.flights holds prices k
  pub prices_row : length prices ≡ P d
  pub lands : (i : ℕ) → i < N d → land d holds i ≤ P d → 0 < capacity d (land d holds i)

-- open periods keep their prices, closed ones have the least
pub record Priced (d : Day) (holds prices prices₂ : List ℕ) : Type 0 where
  pub same : (k : ℕ) → 0 < capacity d k → of_period prices₂ k ≡ of_period prices k
  pub least : (k : ℕ) → 1 ≤ k → k ≤ P d → capacity d k ≡ 0 → LeastPrice (P d) d.flights holds prices k (of_period prices₂ k)
