-- The flights of a day as a list, in table order, the row that they make up, rows that are alike but for a column, and a flight put into
-- a row.
-- Assumes nothing.
use Rattle.std.specs.Prelude.{◌≡◌, ◌≢◌, ℕ, zero, suc, ◌+◌, ◌*◌, ◌<◌, List, [], ◌∷◌, ◌++◌, length, take, drop}
use Rattle.day.specs.declared.Flight.{Flight}
use Rattle.day.specs.Day.{Day, N, width, column, flight_at, flight_count}

-- the first n flights of a row
unfoldable pub first_flights : ℕ → List ℕ → List Flight
first_flights zero row = []
first_flights (suc n) row = first_flights n row ++ (flight_at row n ∷ [])

unfoldable pub flights_of : Day → List Flight
flights_of d = first_flights (N d) d.flights

-- a flight's numbers, in sheet order
abbrev pub numbers_of : Flight → List ℕ
numbers_of f = f.number ∷ f.due ∷ f.rate ∷ f.after ∷ f.jump ∷ f.limit ∷ f.late ∷ []

-- the row of a list of flights
unfoldable pub row_of : List Flight → List ℕ
row_of [] = []
row_of (f ∷ fs) = numbers_of f ++ row_of fs

-- two rows of as many flights that differ in column j alone, if at all
pub record SameBut (j : ℕ) (flights others : List ℕ) : Type 0 where
  pub as_many : length flights ≡ length others
  pub columns : (c i : ℕ) → c < width → c ≢ j → i < flight_count flights → column c flights i ≡ column c others i

-- the row with this flight at table place i
unfoldable pub with_flight : List ℕ → ℕ → Flight → List ℕ
with_flight row i f = take (i * width) row ++ (numbers_of f ++ drop (i * width + width) row)
