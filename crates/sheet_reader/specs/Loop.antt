-- How the reader's inner functions hand on what they have read, and what their loops know. Only private contracts and proofs cite these.
-- Assumes nothing.
use Rattle.std.specs.Prelude.{ℕ, ◌-◌, ◌*◌, ◌≤◌, ◌≡◌, List, [], length, take, Result, Ok, Err}
use Rattle.answers.specs.declared.Refusal.{Refusal}
use Rattle.sheet.specs.declared.SheetRead.{SheetRead}
use Rattle.sheet_reader.specs.declared.Periods.{Periods}
use Rattle.day.specs.Day.{most_periods, most_flights, width}
use Rattle.day.specs.Flights.{first_flights}
use Rattle.sheet.specs.Sheet.{Reading, read, refused, read_periods, read_flights, answer_of, capacities_after, flights_after}
use Rattle.sheet.specs.Text.{period_names}

-- how the reading goes on behind the second names line
abbrev pub go_on : Result Periods Refusal → List ℕ → List ℕ → Reading
go_on (Ok p) s capacities = read_flights most_flights s p.at (take p.count capacities) p.closing []
go_on (Err a) s capacities = refused a

abbrev pub Ready : Result Periods Refusal → List ℕ → Type 0
Ready (Ok p) s = (p.count ≤ most_periods) × (p.at ≤ length s)
Ready (Err a) s = Unit {0}

-- what the flight lines have given
abbrev pub filled : Result ℕ Refusal → List ℕ → ℕ → List ℕ → Reading
filled (Ok n) capacities closing row = read capacities (first_flights n row) closing
filled (Err a) capacities closing row = refused a

abbrev pub Few : Result ℕ Refusal → Type 0
Few (Ok n) = n ≤ most_flights
Few (Err a) = Unit {0}

-- the period lines' loop: n lines are read into the row, and the next one begins at `at`
pub record PeriodsRead (s caps : List ℕ) (n at : ℕ) : Type 0 where
  pub upto : n ≤ most_periods
  pub inside : at ≤ length s
  pub room : length caps ≡ most_periods
  pub so_far : read_periods most_periods s (length period_names) [] ≡ read_periods (most_periods - n) s at (take n caps)

-- what is shown where the loop is left with a refusal
abbrev pub NoPeriods : List ℕ → List ℕ → Refusal → Type 0
NoPeriods s caps a = (length caps ≡ most_periods) × ((read_periods most_periods s (length period_names) [] ≡ refused a) × Unit {0})

-- the flight lines' loop, on a day of p periods: n flights stand in the row, and the next line begins at `at`
pub record FlightsRead (s : List ℕ) (start p : ℕ) (row : List ℕ) (n at : ℕ) : Type 0 where
  pub upto : n ≤ most_flights
  pub inside : at ≤ length s
  pub periods : p ≤ most_periods
  pub room : length row ≡ most_flights * width
  pub so_far : (caps : List ℕ) (closing : ℕ) → length caps ≡ p
      → read_flights most_flights s start caps closing [] ≡ read_flights (most_flights - n) s at caps closing (first_flights n row)

-- what is shown where the loop is left with a refusal
abbrev pub NoFlights : List ℕ → ℕ → ℕ → List ℕ → Refusal → Type 0
NoFlights s start p row a =
    (length row ≡ most_flights * width) × (Unit {0} × ((caps : List ℕ) (closing : ℕ) → length caps ≡ p → read_flights most_flights s start caps closing [] ≡ refused a))

-- what is shown where the call ends: its answer, and the rows afterwards
abbrev pub Outcome : Reading → List ℕ → List ℕ → Result SheetRead Refusal → List ℕ → List ℕ → Type 0
Outcome R caps flights r caps' flights' = (r ≡ answer_of R) × ((caps' ≡ capacities_after R caps) × (flights' ≡ flights_after R flights))
