-- #104, forecasts with odds, after the report's section 3.2: who waits for whom under a forecast, what a hold is expected to cost, and the
-- holds of a day's flights, one after another. "Table order is landing priority, first highest."
-- Assumes nothing.
use Rattle.std.specs.Prelude.{cond, List, [], ◌∷◌, ◌++◌, ℕ, zero, suc, ◌+◌, ◌-◌, ◌*◌, length, get_or, take, drop, ltb}
use Rattle.std.specs.Borrow.{Bor}
use Rattle.assignment.specs.Sum.{sum, count}
use Rattle.day.specs.Day.{Day, P, N, due, rate, of_period, last, hold, land}
use Rattle.day.specs.Plan.{first_of}

-- "up to 8 capacity rows for a day, each with a weight in thousandths"; "a row holds the weights, and one row the forecasts in that order,
-- P numbers each"; the air factor is K
pub record Forecasts : Type 0 where
  pub count : ℕ
  pub air_factor : ℕ
  pub weights : List ℕ
  pub rows : List ℕ

-- the forecasts as they are lent to a call
abbrev pub forecasts : (count air_factor : ℕ) (weights rows : Bor (List ℕ)) → Forecasts
forecasts count air_factor weights rows = record { count = count; air_factor = air_factor; weights = weights.now; rows = rows.now }

-- the weight of forecast s, counted from 0, and its P capacities
abbrev pub weight : Forecasts → ℕ → ℕ
weight f s = get_or f.weights s 0

abbrev pub forecast_at : (p : ℕ) (rows : List ℕ) (s : ℕ) → List ℕ
forecast_at p rows s = take p (drop (s * p) rows)

abbrev pub forecast : Day → Forecasts → ℕ → List ℕ
forecast d f s = forecast_at (P d) f.rows s

-- "the flights above one in priority": how many of them, above table place i, are held to period j
abbrev pub held : Day → (holds : List ℕ) (i j : ℕ) → ℕ
held d holds i j = count i (land d holds) j

-- "left over at j is waiting less capacity, never below 0": the minus stops at 0
abbrev pub left_over : (waiting capacity : ℕ) → ℕ
left_over waiting capacity = waiting - capacity

-- "waiting at j is those held to j plus left over from j−1"; nobody waits before period 1, so that left over is "0 before period 1"
unfoldable pub waiting : (held_to : ℕ → ℕ) (capacities : List ℕ) (j : ℕ) → ℕ
waiting held_to capacities zero = 0
waiting held_to capacities (suc j) = held_to (suc j) + left_over (waiting held_to capacities j) (of_period capacities j)

-- "the first period from its held one on where waiting is below capacity, else .. the closing period"
unfoldable pub first_room : (waits : ℕ → ℕ) (capacities : List ℕ) (q : ℕ) → ℕ
unfolding first_of
first_room waits capacities q = q + first_of (length capacities + 1 - q) (λ t. ltb (waits (q + t)) (of_period capacities (q + t)))

-- the period in which a flight lands that is held to period q, below flights held as `held_to` says
abbrev pub lands : (held_to : ℕ → ℕ) (capacities : List ℕ) (q : ℕ) → ℕ
lands held_to capacities q = first_room (waiting held_to capacities) capacities q

-- what hold h costs flight i if it lands in period k: "A period in the air costs K × rate"
abbrev pub cost_if : Day → (air_factor i h k : ℕ) → ℕ
cost_if d air_factor i h k = rate d i * h + air_factor * rate d i * (k - (due d i + h))

-- the expected cost of hold h for flight i, in thousandths, "given those before it"
unfoldable pub expected : Day → Forecasts → (holds : List ℕ) (i h : ℕ) → ℕ
unfolding sum
expected d f holds i h =
    sum f.count (λ s. weight f s * cost_if d f.air_factor i h (lands (held d holds i) (forecast d f s) (due d i + h)))

-- the longer hold h only if it costs less than the best before it: "smallest on a tie"
abbrev pub better : (cost : ℕ → ℕ) (h best : ℕ) → ℕ
better cost h best = cond (ltb (cost h) (cost best)) h best

-- the hold of 0 to n of least cost
unfoldable pub least_hold : (n : ℕ) (cost : ℕ → ℕ) → ℕ
least_hold zero cost = 0
least_hold (suc n) cost = better cost (suc n) (least_hold n cost)

-- the longest hold of flight i: "within its limit", and to P + 1 at most
abbrev pub longest : Day → ℕ → ℕ
longest d i = last d i - due d i

-- the holds of flights 0 to i, from those of the flights before flight i
abbrev pub with_next : Day → Forecasts → (i : ℕ) (before : List ℕ) → List ℕ
with_next d f i before = before ++ (least_hold (longest d i) (expected d f before i) ∷ [])

-- the holds of the first i flights: "flights get holds one after another"
unfoldable pub holds_to : Day → Forecasts → ℕ → List ℕ
unfolding least_hold
holds_to d f zero = []
holds_to d f (suc i) = with_next d f i (holds_to d f i)

-- the row of holds, in table order
abbrev pub forecast_holds : Day → Forecasts → List ℕ
forecast_holds d f = holds_to d f (N d)

-- "The total is answered in thousandths."
unfoldable pub expected_total : Day → Forecasts → (holds : List ℕ) → ℕ
unfolding sum
expected_total d f holds = sum (N d) (λ i. expected d f holds i (hold holds i))
