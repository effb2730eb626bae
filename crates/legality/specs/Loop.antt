-- The states of the loops over a hold row. Only inner contracts cite them.
-- Assumes nothing.
use Rattle.std.specs.Prelude.{◌≡◌, true, false, List, ℕ, ◌*◌, ◌≤◌, ◌<◌, length, get_or, Option, Some, None}
use Rattle.assignment.specs.Sum.{sum, count}
use Rattle.day.specs.Day.{Day, N, most_flights, period_row, width, flight_count, flight_at, hold_cost, land, hold, valid, jump_of, rate_of}
use Rattle.day.specs.Plan.{breaks, first_break}

-- the flights before table place i break nothing, and their landings are counted
pub record Walked (d : Day) (holds loads : List ℕ) (i : ℕ) : Type 0 where
  pub good : valid d ≡ true
  pub each : length holds ≡ N d
  pub upto : i ≤ N d
  pub sizes : length loads ≡ period_row
  pub counted : (k : ℕ) → k < period_row → get_or loads k 0 ≡ count i (land d holds) k
  pub none : (j : ℕ) → j < i → breaks d holds j ≡ false

-- the first flight that breaks the row, if one does
abbrev pub FirstBreak : Day → List ℕ → Option ℕ → Type 0
FirstBreak d holds (Some i) = (i < N d) × (i ≡ first_break d holds)
FirstBreak d holds None = first_break d holds ≡ N d

-- a hold for each flight, and numbers so low that the sum of the costs fits 64 bits, whatever the holds
pub record CanSum (flights holds : List ℕ) : Type 0 where
  pub each : length holds ≡ flight_count flights
  pub whole : length flights ≡ flight_count flights * width
  pub few : flight_count flights ≤ most_flights
  pub rates : (i : ℕ) → i < flight_count flights → rate_of flights i ≤ 10000
  pub jumps : (i : ℕ) → i < flight_count flights → jump_of flights i ≤ 1000000

-- the costs of the flights before table place i are summed
pub record Summed (flights holds : List ℕ) (s i : ℕ) : Type 0 where
  pub can : CanSum flights holds
  pub upto : i ≤ flight_count flights
  pub costs : s ≡ sum i (λ j. hold_cost (flight_at flights j) (hold holds j))
  pub most : s ≤ i * 42949673960000
