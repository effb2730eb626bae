-- What the program's rows hold while flights get their holds. Only inner contracts cite it.
-- Assumes nothing.
use Rattle.std.specs.Prelude.{◌≡◌, List, ℕ, ◌+◌, ◌-◌, ◌*◌, ◌≤◌, ◌<◌, length}
use Rattle.assignment.specs.Sum.{sum}
use Rattle.assignment.specs.Rows.{el}
use Rattle.day.specs.Day.{Day, P, N, most_periods, most_flights, period_row, latest_of, hold}
use Rattle.day.specs.Valid.{Valid}
use Rattle.day.specs.declared.Flight.{Flight}
use Rattle.forecast_plan.specs.declared.Chosen.{Chosen}
use Rattle.forecast_plan.specs.declared.Odds.{Odds}
use Rattle.forecast_plan.specs.Forecast.{Forecasts, forecasts, weight, forecast_at, held, waiting, first_room, expected, least_hold, forecast_holds}

-- the odds that inner calls pass on: forecasts as many as there are weights
abbrev pub odds_of : Odds → Forecasts
odds_of o = forecasts (length o.weights.now) o.factor o.weights o.rows

-- a day and forecasts that no refusal stops, but for jumps and the forecasts' capacities, which the program need not know of
pub record Fit (d : Day) (f : Forecasts) : Type 0 where
  pub good : Valid d
  pub factor_to : f.air_factor ≤ 10
  pub count_to : f.count ≤ 8
  pub weights_are : length f.weights ≡ f.count
  pub rows_are : length f.rows ≡ f.count * P d
  pub add_up : sum f.count (weight f) ≡ 1000

-- the forecasts in one row, of p periods each, and a row with a part for each of them, in which who waits is kept
pub record Parted (p n : ℕ) (rows waits : List ℕ) : Type 0 where
  pub periods : p ≤ most_periods
  pub forecasts : n ≤ 8
  pub whole : length rows ≡ n * p
  pub sizes : length waits ≡ 8 * period_row

-- a row in which the flights held to each period are counted
pub record Counts (held_to : List ℕ) : Type 0 where
  pub places : length held_to ≡ period_row
  pub few : (k : ℕ) → el held_to k ≤ most_flights

-- who waits under one forecast is known for the periods before `from`
pub record Known (held_to : ℕ → ℕ) (capacities : List ℕ) (waits : ℕ → ℕ) (from : ℕ) : Type 0 where
  pub each : (k : ℕ) → 1 ≤ k → k < from → k ≤ length capacities → waits k ≡ waiting held_to capacities k

-- and behind the first period from `from` on with room: one flight more is held to `from`, and lands there
pub record Behind (held_to : ℕ → ℕ) (capacities : List ℕ) (waits : ℕ → ℕ) (from : ℕ) : Type 0 where
  pub each : (k : ℕ) → first_room waits capacities from < k → k ≤ length capacities → waits k ≡ waiting held_to capacities k

-- a row that stays as it was behind period j
pub record Stays (before after : List ℕ) (j : ℕ) : Type 0 where
  pub each : (k : ℕ) → j < k → el after k ≡ el before k

-- the rows of one forecast: how many are held to each period, and who waits there as far as it is known
pub record Turn (held_to capacities waits : List ℕ) (from : ℕ) : Type 0 where
  pub periods : length capacities ≤ most_periods
  pub counts : Counts held_to
  pub sizes : length waits ≡ period_row
  pub known : Known (el held_to) capacities (el waits) from

-- who waits under forecast s, in a row that has a part for each forecast
abbrev pub waits_of : List ℕ → ℕ → ℕ → ℕ
waits_of waits s k = el waits (s * period_row + k)

-- the rows of all forecasts, of p periods each: with `from` past the last period all is known
pub record Turns (p n : ℕ) (rows held_to waits : List ℕ) (from : ℕ) : Type 0 where
  pub parted : Parted p n rows waits
  pub counts : Counts held_to
  pub known : (s : ℕ) → s < n → Known (el held_to) (forecast_at p rows s) (waits_of waits s) from
  pub behind : (s : ℕ) → s < n → Behind (el held_to) (forecast_at p rows s) (waits_of waits s) from

-- a row of periods in the air by weight, for one forecast: from `due` on, what a flight held to a period waits in the air is added
pub record Adding (capacities waits : List ℕ) (weight due : ℕ) (air₀ air : List ℕ) (j : ℕ) : Type 0 where
  pub periods : length capacities ≤ most_periods
  pub waited : length waits ≡ period_row
  pub sizes : length air ≡ period_row
  pub odds : weight ≤ 1000
  pub low : (q : ℕ) → due ≤ q → q ≤ length capacities → el air₀ q ≤ 768000
  pub from : 1 ≤ due
  pub downto : due ≤ j
  pub upto : j ≤ length capacities + 1
  pub added : (q : ℕ) → j ≤ q → q ≤ length capacities + 1 → el air q ≡ el air₀ q + weight * (first_room (el waits) capacities q - q)
  pub others : (q : ℕ) → q < j → el air q ≡ el air₀ q

-- the periods in the air of a flight held to period q under the first n forecasts, by weight
abbrev pub airborne : ℕ → (weights rows waits : List ℕ) → ℕ → ℕ → ℕ
airborne p weights rows waits n q = sum n (λ s. el weights s * (first_room (waits_of waits s) (forecast_at p rows s) q - q))

-- a row of them, from `due` on
pub record Weighed (p : ℕ) (weights rows waits : List ℕ) (due : ℕ) (air : List ℕ) (n : ℕ) : Type 0 where
  pub parted : Parted p (length weights) rows waits
  pub odds : (s : ℕ) → el weights s ≤ 1000
  pub from : 1 ≤ due
  pub to : due ≤ p
  pub sizes : length air ≡ period_row
  pub upto : n ≤ length weights
  pub sums : (q : ℕ) → due ≤ q → q ≤ p + 1 → el air q ≡ airborne p weights rows waits n q

-- what a flight's hold is expected to cost, in thousandths, from the periods in the air by weight
unfoldable pub weighed : Flight → ℕ → (ℕ → ℕ) → ℕ → ℕ
weighed f air_factor air h = 1000 * f.rate * h + air_factor * f.rate * air (f.due + h)

-- numbers so low that it fits 64 bits
pub record Low (f : Flight) (air_factor last : ℕ) (air : List ℕ) : Type 0 where
  pub rate_to : f.rate ≤ 10000
  pub factor_to : air_factor ≤ 10
  pub window : f.due ≤ last
  pub last_to : last < period_row
  pub sizes : length air ≡ period_row
  pub low : (q : ℕ) → f.due ≤ q → q ≤ last → el air q ≤ 768000

-- the hold of least cost of 0 to n, and its cost
pub record Chooses (n : ℕ) (cost : ℕ → ℕ) (c : Chosen) : Type 0 where
  pub hold_is : c.hold ≡ least_hold n cost
  pub cost_is : c.cost ≡ cost c.hold

-- what a flight's hold asks for, on a day of p periods
pub record Ready (f : Flight) (factor p : ℕ) (weights rows waits : List ℕ) : Type 0 where
  pub parted : Parted p (length weights) rows waits
  pub odds : (s : ℕ) → el weights s ≤ 1000
  pub factor_to : factor ≤ 10
  pub rate_to : f.rate ≤ 10000
  pub due_from : 1 ≤ f.due
  pub due_to : f.due ≤ p
  pub reach : f.due ≤ latest_of p f

-- the flights above table place i have the plan's holds, and are counted and summed
pub record Placed (d : Day) (f : Forecasts) (holds held_to waits : List ℕ) (total i : ℕ) : Type 0 where
  pub fit : Fit d f
  pub each : length holds ≡ N d
  pub upto : i ≤ N d
  pub turns : Turns (P d) f.count f.rows held_to waits (P d + 1)
  pub counted : (k : ℕ) → k < period_row → el held_to k ≡ held d (forecast_holds d f) i k
  pub filled : (j : ℕ) → j < i → hold holds j ≡ hold (forecast_holds d f) j
  pub summed : total ≡ sum i (λ j. expected d f (forecast_holds d f) j (hold (forecast_holds d f) j))
