-- Cases A to K of document 01 and the days of #102, #103 and #108 as one table: each row is a day, and what the documents say of it.
-- Assumes nothing.
use Rattle.std.specs.Prelude.{◌≡◌, true, ◌||◌, List, [], ◌∷◌, ◌++◌, ℕ, ◌<◌, eqb}
use Rattle.day.specs.Day.{Day, day, unlimited, N, number, cost, total, valid}
use Rattle.day.specs.Flights.{numbers_of}
use Rattle.day.specs.Plan.{Legal, Cheapest, Accepted, Smallest, PricesSave, Picked}
use Rattle.quick_plan.specs.Quick.{operates, rates, quick}

-- ---- what a case says of its day

pub data Claim : Type 0 where
  -- the least total, the holds of a plan that comes to it, and prices that show that no legal plan is cheaper
  least_total : ℕ → List ℕ → List ℕ → Claim
  -- the holds of a cheapest plan, and the smallest prices (#103)
  smallest_prices : List ℕ → List ℕ → Claim
  -- answer 9, and the first and last period of its stretch
  no_plan : ℕ → ℕ → Claim
  -- the price check's answer for holds and prices
  get_yes get_no : List ℕ → List ℕ → Claim
  -- a table place, a hold, and what the flight there costs with it
  hold_costs : ℕ → ℕ → ℕ → Claim
  -- the holds of the quick plan
  quick_holds : List ℕ → Claim
  -- a period, and the numbers of two flights that land in it in the quick plan, and no others
  two_land : ℕ → ℕ → ℕ → Claim

pub record TotalIsLeast (d : Day) (t : ℕ) (holds prices : List ℕ) : Type 0 where
  pub cheapest : Cheapest d holds
  pub comes_to : total d holds ≡ t
  pub shown : Accepted d holds prices

-- no other row is smallest, and one more landing in a period saves its price
pub record PricesAre (d : Day) (holds prices : List ℕ) : Type 0 where
  pub smallest : Smallest d holds prices
  pub only : (others row : List ℕ) → Smallest d others row → row ≡ prices
  pub saves : PricesSave d (total d holds) prices

pub record NoneIsLegal (d : Day) (first last : ℕ) : Type 0 where
  pub picked : Picked d first last
  pub none : (holds : List ℕ) → Legal d holds → ⊥

pub record OnlyTwoLand (d : Day) (j x y : ℕ) : Type 0 where
  pub landing : (i : ℕ) → i < N d → operates d (rates d) j i ≡ (eqb (number d i) x || eqb (number d i) y)

-- what a claim says of a day
abbrev pub Says : Day → Claim → Type 0
Says d (least_total t holds prices) = TotalIsLeast d t holds prices
Says d (smallest_prices holds prices) = PricesAre d holds prices
Says d (no_plan first last) = NoneIsLegal d first last
Says d (get_yes holds prices) = Accepted d holds prices
Says d (get_no holds prices) = Accepted d holds prices → ⊥
Says d (hold_costs i h c) = cost d i h ≡ c
Says d (quick_holds holds) = quick d ≡ holds
Says d (two_land j x y) = OnlyTwoLand d j x y

-- every day of a table is valid, and what is said of it is true
abbrev pub Correct : List (Day × Claim) → Type 0
Correct [] = Unit {0}
Correct ((d, said) ∷ rest) = ((valid d ≡ true) × Says d said) × Correct rest

-- ---- the days; what document 01 leaves open in them (a capacity, a rate, a flight number) is chosen. Up to #103 none has a closing line

-- a flight's seven numbers, in sheet order
abbrev pub late_flight : ℕ → ℕ → ℕ → ℕ → ℕ → ℕ → ℕ → List ℕ
late_flight number due rate after jump limit late =
    numbers_of (record { number = number; due = due; rate = rate; after = after; jump = jump; limit = limit; late = late })

-- "cases B to K are read with late 0" (#102)
abbrev pub flight : ℕ → ℕ → ℕ → ℕ → ℕ → ℕ → List ℕ
flight number due rate after jump limit = late_flight number due rate after jump limit 0

-- "255 for a missing limit"
abbrev pub no_limit : ℕ
no_limit = 255

-- "one period, no flights"
unfoldable pub day_a : Day
day_a = day (1 ∷ []) [] unlimited

-- "This whole sheet is case B"
unfoldable pub day_b : Day
day_b = day (1 ∷ 1 ∷ []) (flight 11 1 10 0 0 no_limit ++ flight 12 1 4 0 0 no_limit ++ flight 13 2 6 0 0 1) unlimited

-- "two flights due 1 with limit 0"
abbrev pub two_flights : List ℕ
two_flights = flight 1 1 1 0 0 0 ++ flight 2 1 1 0 0 0

-- "one period of capacity 1, two flights due 1 with limit 0"
unfoldable pub day_d : Day
day_d = day (1 ∷ []) two_flights unlimited

-- "D with capacity 2"
unfoldable pub day_e : Day
day_e = day (2 ∷ []) two_flights unlimited

-- "one period, capacity 0, a flight at rate 3, no jump, no limit"
unfoldable pub day_f : Day
day_f = day (0 ∷ []) (flight 1 1 3 0 0 no_limit) unlimited

-- "F with limit 0"
unfoldable pub day_g : Day
day_g = day (0 ∷ []) (flight 1 1 3 0 0 0) unlimited

-- "rate 2, after 1, jump 50"
unfoldable pub day_h : Day
day_h = day (0 ∷ 0 ∷ []) (flight 1 1 2 1 50 no_limit) unlimited

-- "two periods of capacity 1, two flights due 1, rates 10 and 4, the second with after 0 and jump 100"
unfoldable pub day_i : Day
day_i = day (1 ∷ 1 ∷ []) (flight 1 1 10 0 0 no_limit ++ flight 2 1 4 0 100 no_limit) unlimited

-- "the report's ten flights, seven periods of capacity 2", each flight with the same limit
abbrev pub report : ℕ → Day
report limit = day (2 ∷ 2 ∷ 2 ∷ 2 ∷ 2 ∷ 2 ∷ 2 ∷ []) (
    flight 1 3 10 0 0 limit ++ flight 2 5 5 0 0 limit ++ flight 3 5 10 0 0 limit ++ flight 4 4 10 0 0 limit ++ flight 5 3 10 0 0 limit
    ++ flight 6 5 5 0 0 limit ++ flight 7 3 5 0 0 limit ++ flight 8 5 10 0 0 limit ++ flight 9 4 10 0 0 limit ++ flight 10 4 5 0 0 limit
    ) unlimited

unfoldable pub day_j : Day
day_j = report no_limit

-- "J with limit 2 for all"
unfoldable pub day_k : Day
day_k = report 2

-- #102: late + hold is greater than after at hold 0 already
unfoldable pub day_late : Day
day_late = day (1 ∷ []) (late_flight 1 1 2 1 50 no_limit 2) unlimited

-- #102: one period of capacity 1, and two flights that differ in number and late alone
unfoldable pub day_lates : ℕ → ℕ → Day
day_lates first second = day (1 ∷ []) (late_flight 1 1 1 1 5 no_limit first ++ late_flight 2 1 1 1 5 no_limit second) unlimited

-- #103: the day with one more landing has a capacity of 256, which no day that passes its check has
unfoldable pub day_most : Day
day_most = day (255 ∷ []) (flight 1 1 3 0 0 no_limit) unlimited

-- #108: the day with `closing,c` after its period lines
abbrev pub with_line : ℕ → Day → Day
with_line c d = day d.capacities d.flights c

-- #108: F with a limit that "reaches further" than the closing period
unfoldable pub day_far : Day
day_far = day (0 ∷ []) (flight 1 1 3 0 0 96) unlimited

-- ---- the table

-- the holds of the plan that document 01 writes out for B, those of the quick plan of J, and those of a cheapest plan of K
abbrev pub holds_b : List ℕ
holds_b = 0 ∷ 2 ∷ 0 ∷ []

abbrev pub holds_j : List ℕ
holds_j = 0 ∷ 2 ∷ 0 ∷ 0 ∷ 0 ∷ 2 ∷ 3 ∷ 0 ∷ 0 ∷ 2 ∷ []

abbrev pub holds_k : List ℕ
holds_k = 0 ∷ 2 ∷ 0 ∷ 0 ∷ 0 ∷ 2 ∷ 2 ∷ 1 ∷ 0 ∷ 2 ∷ []

abbrev pub table : List (Day × Claim)
table =
    -- A: "total 0"
    (day_a, least_total 0 [] (0 ∷ []))
    -- B: the total of the plan that document 01 writes out
    ∷ (day_b, least_total 8 holds_b (8 ∷ 4 ∷ []))
    -- C: "for B's holds, prices 8, 4 get a yes; 7, 4 a no"
    ∷ (day_b, get_yes holds_b (8 ∷ 4 ∷ []))
    ∷ (day_b, get_no holds_b (7 ∷ 4 ∷ []))
    -- D: "9, stretch 1 to 1"
    ∷ (day_d, no_plan 1 1)
    -- E: "total 0"
    ∷ (day_e, least_total 0 (0 ∷ 0 ∷ []) (0 ∷ []))
    -- F: "hold 1, cost 3"
    ∷ (day_f, least_total 3 (1 ∷ []) (3 ∷ []))
    -- G: "9"
    ∷ (day_g, no_plan 1 1)
    -- H: "hold 1 costs 2, hold 2 costs 54"
    ∷ (day_h, hold_costs 0 1 2)
    ∷ (day_h, hold_costs 0 2 54)
    -- I: "total 10, not 104"
    ∷ (day_i, least_total 10 (1 ∷ 0 ∷ []) (10 ∷ 0 ∷ []))
    -- J: "total 45; in period 6 flights 7 and 10 land"
    ∷ (day_j, least_total 45 holds_j (0 ∷ 0 ∷ 20 ∷ 15 ∷ 10 ∷ 5 ∷ 0 ∷ []))
    ∷ (day_j, quick_holds holds_j)
    ∷ (day_j, two_land 6 7 10)
    -- K: "total 50"
    ∷ (day_k, least_total 50 holds_k (0 ∷ 0 ∷ 25 ∷ 20 ∷ 15 ∷ 5 ∷ 0 ∷ []))
    -- #102: "a flight with hold 0 may cost something"
    ∷ (day_late, hold_costs 0 0 50)
    ∷ (day_late, least_total 50 (0 ∷ []) (0 ∷ []))
    -- #102: of two flights that differ in late alone the later one lands in period 1
    ∷ (day_lates 0 1, least_total 1 (1 ∷ 0 ∷ []) (1 ∷ []))
    ∷ (day_lates 1 0, least_total 1 (0 ∷ 1 ∷ []) (1 ∷ []))
    -- #103: "Case B has 8 and 4"; F, whose one period has capacity 0; I, J, K
    ∷ (day_b, smallest_prices holds_b (8 ∷ 4 ∷ []))
    ∷ (day_f, smallest_prices (1 ∷ []) (3 ∷ []))
    ∷ (day_i, smallest_prices (1 ∷ 0 ∷ []) (10 ∷ 0 ∷ []))
    ∷ (day_j, smallest_prices holds_j (0 ∷ 0 ∷ 20 ∷ 15 ∷ 10 ∷ 5 ∷ 0 ∷ []))
    ∷ (day_k, smallest_prices holds_k (0 ∷ 0 ∷ 25 ∷ 20 ∷ 15 ∷ 5 ∷ 0 ∷ []))
    -- #103: "this holds on paper at capacity 255 too"
    ∷ (day_most, smallest_prices (0 ∷ []) (0 ∷ []))
    -- #108: a line that leaves room for F's flight changes neither its plan nor its price, and the added price is 0; with 255 the day with
    -- one more landing in the closing period has 256, which is no line
    ∷ (with_line 1 day_f, least_total 3 (1 ∷ []) (3 ∷ 0 ∷ []))
    ∷ (with_line 1 day_f, smallest_prices (1 ∷ []) (3 ∷ 0 ∷ []))
    ∷ (with_line 255 day_f, smallest_prices (1 ∷ []) (3 ∷ 0 ∷ []))
    -- #108: "the price row has one entry more .. under the same rules": the flight pays the closing price too, and it is 0 where the closing
    -- period isn't full
    ∷ (with_line 1 day_f, get_yes (1 ∷ []) (4 ∷ 1 ∷ []))
    ∷ (with_line 1 day_f, get_no (1 ∷ []) (3 ∷ 1 ∷ []))
    ∷ (with_line 2 day_f, get_no (1 ∷ []) (4 ∷ 1 ∷ []))
    -- #108: "stretches may now end at P+1", where "due + limit counts as P+1 where the limit is missing or reaches further"
    ∷ (with_line 0 day_f, no_plan 1 2)
    ∷ (with_line 0 day_far, no_plan 1 2)
    -- #108: of D's stretches 1 to 1 and 1 to 2, both short with the line, the first has the smaller last period
    ∷ (with_line 0 day_d, no_plan 1 1)
    ∷ []
