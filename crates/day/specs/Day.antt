-- The day of document 01, "The day", with the column of #102 and the closing number of #108: two rows of numbers and one number more, and
-- what a flight's seven numbers, its cost and its window are.
-- Assumes nothing.
use Rattle.std.specs.Prelude.{Bool, true, cond, not, ◌&&◌, ◌||◌, List, ◌∷◌, ℕ, zero, suc, ◌+◌, ◌*◌, ◌/◌, ◌≤◌, min, length, get_or, leb, ltb, eqb}
use Rattle.std.specs.Borrow.{Bor}
use Rattle.assignment.specs.Sum.{gate, sum, count}
use Rattle.day.specs.declared.Flight.{Flight}

-- "P is 1 to 96, N is 0 to 128"
abbrev pub most_periods : ℕ
most_periods = 96

abbrev pub most_flights : ℕ
most_flights = 128

-- a row that is read at the period itself, from 0 to the closing period
abbrev pub period_row : ℕ
period_row = most_periods + 2

-- "In memory a day is two lent rows": P capacities, and "seven numbers" a flight (#102) in sheet order; and "one more number travels with
-- the day" (#108): how many may land in the closing period, 0 to 255, or 256 for unlimited
pub record Day : Type 0 where
  pub capacities : List ℕ
  pub flights : List ℕ
  pub closing : ℕ

abbrev pub day : List ℕ → List ℕ → ℕ → Day
day capacities flights closing = record { capacities = capacities; flights = flights; closing = closing }

-- the day in two rows and a number as they are lent to a call
abbrev pub lent : (capacities flights : Bor (List ℕ)) → ℕ → Day
lent capacities flights closing = day capacities.now flights.now closing

-- "256 for unlimited" (#108): more than a day has flights
abbrev pub unlimited : ℕ
unlimited = 256

-- P, the number of periods, numbered 1 to P; period P + 1 is the closing period
abbrev pub P : Day → ℕ
P d = length d.capacities

-- "A flight takes seven numbers in memory" (#102); column j of the flight at table place i
abbrev pub width : ℕ
width = 7

abbrev pub column : ℕ → List ℕ → ℕ → ℕ
column j flights i = get_or flights (i * width + j) 0

-- columns of the flight at table place i of a row; the names below that take a day are these of its flights
abbrev pub number_of : List ℕ → ℕ → ℕ
number_of = column 0

abbrev pub due_of : List ℕ → ℕ → ℕ
due_of = column 1

abbrev pub rate_of : List ℕ → ℕ → ℕ
rate_of = column 2

abbrev pub after_of : List ℕ → ℕ → ℕ
after_of = column 3

abbrev pub jump_of : List ℕ → ℕ → ℕ
jump_of = column 4

abbrev pub limit_of : List ℕ → ℕ → ℕ
limit_of = column 5

abbrev pub late_of : List ℕ → ℕ → ℕ
late_of = column 6

-- the flight at table place i of a row: its seven numbers, "in sheet order"
unfoldable pub flight_at : List ℕ → ℕ → Flight
flight_at flights i = record {
  number = number_of flights i;
  due = due_of flights i;
  rate = rate_of flights i;
  after = after_of flights i;
  jump = jump_of flights i;
  limit = limit_of flights i;
  late = late_of flights i;
}

-- N, the number of flights; "table place counts flights from 0"
unfoldable pub flight_count : List ℕ → ℕ
flight_count flights = length flights / width

abbrev pub N : Day → ℕ
N d = flight_count d.flights

-- the numbers of the flight at table place i
abbrev pub number : Day → ℕ → ℕ
number d = number_of d.flights

abbrev pub due : Day → ℕ → ℕ
due d = due_of d.flights

abbrev pub rate : Day → ℕ → ℕ
rate d = rate_of d.flights

abbrev pub after : Day → ℕ → ℕ
after d = after_of d.flights

abbrev pub jump : Day → ℕ → ℕ
jump d = jump_of d.flights

abbrev pub limit : Day → ℕ → ℕ
limit d = limit_of d.flights

abbrev pub late : Day → ℕ → ℕ
late d = late_of d.flights

-- "255 for a missing limit"
abbrev pub missing : ℕ → Bool
missing l = eqb l 255

-- what a row of P entries has for period k; 0 for a period that is none of 1 to P
abbrev pub of_period : List ℕ → ℕ → ℕ
of_period row k = get_or (0 ∷ row) k 0

-- "most landings in a period", for a period of 1 to P
abbrev pub capacity : Day → ℕ → ℕ
capacity d k = of_period d.capacities k

-- how many may land in a period, the closing period among them
unfoldable pub takes_of : (capacities : List ℕ) (closing k : ℕ) → ℕ
takes_of capacities closing k = of_period capacities k + gate (eqb k (length capacities + 1)) closing

abbrev pub takes : Day → ℕ → ℕ
takes d = takes_of d.capacities d.closing

-- a closing line is there (#108): 256 is written by none
abbrev pub has_line : ℕ → Bool
has_line closing = ltb closing unlimited

-- the last period whose landings are counted against a number: P, or the closing period where a closing line is there (#108)
unfoldable pub counted_of : (p closing : ℕ) → ℕ
counted_of p closing = p + gate (has_line closing) 1

abbrev pub counted : Day → ℕ
counted d = counted_of (P d) d.closing

-- "Its cost is rate × h, plus jump", "charged when late + hold is greater than after" (#102)
unfoldable pub hold_cost : Flight → ℕ → ℕ
hold_cost f h = f.rate * h + gate (ltb f.after (f.late + h)) f.jump

-- what a hold of h costs the flight at table place i
abbrev pub cost : Day → ℕ → ℕ → ℕ
cost d i h = hold_cost (flight_at d.flights i) h

-- due + limit, "a missing limit reaching past P", on a day of p periods
unfoldable pub latest_of : ℕ → Flight → ℕ
latest_of p f = cond (missing f.limit) (p + 1) (f.due + f.limit)

abbrev pub latest : Day → ℕ → ℕ
latest d i = latest_of (P d) (flight_at d.flights i)

-- flight i may land in period k: "from its due period to P+1 that its limit allows"
pub record Window (d : Day) (i k : ℕ) : Type 0 where
  pub from : due d i ≤ k
  pub closing : k ≤ P d + 1
  pub limited : k ≤ latest d i

-- the last period of a flight's window, on a day of p periods: "due + limit counts as P+1 where the limit is missing or reaches further"
-- (#108)
unfoldable pub last_of : ℕ → Flight → ℕ
last_of p f = min (latest_of p f) (p + 1)

abbrev pub last : Day → ℕ → ℕ
last d i = last_of (P d) (flight_at d.flights i)

-- "A flight with hold h lands in period due + h."
abbrev pub hold : List ℕ → ℕ → ℕ
hold holds i = get_or holds i 0

abbrev pub land_of : (flights holds : List ℕ) → ℕ → ℕ
land_of flights holds i = due_of flights i + hold holds i

abbrev pub land : Day → List ℕ → ℕ → ℕ
land d = land_of d.flights

-- how many flights land in period k
abbrev pub landings : Day → List ℕ → ℕ → ℕ
landings d holds k = count (N d) (land d holds) k

-- "The total is the sum over flights"
unfoldable pub total_of : (flights holds : List ℕ) → ℕ
total_of flights holds = sum (flight_count flights) (λ i. hold_cost (flight_at flights i) (hold holds i))

abbrev pub total : Day → List ℕ → ℕ
total d = total_of d.flights

-- the test holds of 0 .. n - 1
unfoldable pub all : ℕ → (ℕ → Bool) → Bool
all zero f = true
all (suc n) f = all n f && f n

-- a to b
abbrev pub inside : ℕ → ℕ → ℕ → Bool
inside a b x = leb a x && leb x b

-- the table's ranges of a flight's seven numbers, on a day of p periods
unfoldable pub flight_fits : ℕ → Flight → Bool
flight_fits p f =
    inside 1 9999 f.number && inside 1 p f.due && inside 1 10000 f.rate && leb f.after 96 && leb f.jump 1000000
    && (leb f.limit 96 || missing f.limit) && leb f.late 255

-- a row of capacities is within the table's range
abbrev pub capacities_fit : List ℕ → Bool
capacities_fit row = all (length row) (λ k. leb (get_or row k 0) 255)

-- of the flight at table place i, on a day of p periods
abbrev pub in_range : ℕ → List ℕ → ℕ → Bool
in_range p flights i = flight_fits p (flight_at flights i)

-- the flight's number stands at no lower table place
unfoldable pub is_new : List ℕ → ℕ → Bool
unfolding all
is_new flights i = all i (λ j. not (eqb (number_of flights j) (number_of flights i)))

-- no "length or value against the table above, or a repeated flight number", no closing number above 256 (#108): what refusal 6 tests
unfoldable pub valid : Day → Bool
unfolding flight_count all flight_fits is_new
valid d =
    inside 1 most_periods (P d) && eqb (length d.flights) (N d * width) && leb (N d) most_flights
    && leb d.closing unlimited && capacities_fit d.capacities && all (N d) (in_range (P d) d.flights) && all (N d) (is_new d.flights)
