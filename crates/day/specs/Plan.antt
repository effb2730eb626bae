-- Plans of a day: which are legal, which are cheapest, which prices show it, what one more landing saves, and which stretches of periods
-- leave no plan.
-- A plan is a row of N holds, in table order.
-- Assumes nothing.
use Rattle.std.specs.Prelude.{◌≡◌, Bool, cond, not, ◌&&◌, ◌||◌, List, ℕ, zero, suc, ◌+◌, ◌-◌, ◌≤◌, ◌<◌, length, set, leb, ltb, eqb}
use Rattle.assignment.specs.Sum.{gate, sum, count}
use Rattle.day.specs.declared.Flight.{Flight}
use Rattle.day.specs.Day.{Day, day, P, N, flight_count, flight_at, due, missing, of_period, capacity, takes_of, takes, counted_of, counted, cost, latest_of, last, Window, hold, land, landings, total}

-- "A legal plan gives each flight one hold of 0 or more; no landing is after P+1; no hold is over its limit; no period 1 to P has more
-- landings than its capacity", nor the closing period more than the closing line's number, where it is there: "A legal plan must keep it"
-- (#108)
pub record Legal (d : Day) (holds : List ℕ) : Type 0 where
  pub each : length holds ≡ N d
  pub window : (i : ℕ) → i < N d → Window d i (land d holds i)
  pub room : (k : ℕ) → 1 ≤ k → k ≤ counted d → landings d holds k ≤ takes d k

-- there is a legal plan
pub record HasPlan (d : Day) : Type 0 where
  pub holds : List ℕ
  pub legal : Legal d holds

-- legal, and no legal plan costs less
pub record Cheapest (d : Day) (holds : List ℕ) : Type 0 where
  pub legal : Legal d holds
  pub least : (other : List ℕ) → Legal d other → total d holds ≤ total d other

-- the price check's yes: "the holds are legal, a period 1 to P that isn't full has price 0, and each flight's cost plus the price of its
-- landing period is least among the periods from its due period to P+1 that its limit allows, whatever their capacities (closing price 0)";
-- with a closing line "the price row has one entry more", for the closing period, "under the same rules" (#108)
pub record Accepted (d : Day) (holds prices : List ℕ) : Type 0 where
  pub legal : Legal d holds
  pub each : length prices ≡ counted d
  pub unsold : (k : ℕ) → 1 ≤ k → k ≤ counted d → landings d holds k < takes d k → of_period prices k ≡ 0
  pub least : (i k : ℕ) → i < N d → Window d i k
      → cost d i (hold holds i) + of_period prices (land d holds i) ≤ cost d i (k - due d i) + of_period prices k

-- #103: "the smallest that the price check accepts, period by period together": accepted, and no entry is above that of any row that the
-- check accepts, for whichever plan (the plan that a row is accepted for is cheapest)
pub record Smallest (d : Day) (holds prices : List ℕ) : Type 0 where
  pub accepted : Accepted d holds prices
  pub lowest : (others row : List ℕ) → Accepted d others row → (k : ℕ) → of_period prices k ≤ of_period row k

-- #103: the day in which period k of 1 to P "alone had a capacity greater by one", or the closing period a number greater by one (#108); it
-- need not pass the check of a day, and a closing number of 255 becomes unlimited
abbrev pub one_more : Day → ℕ → Day
one_more d k = day (set d.capacities (k - 1) (capacity d k + 1)) d.flights (d.closing + gate (eqb k (P d + 1)) 1)

-- #103: "the fall in least total": a cheapest plan of that day costs so much less than the least total of this one
pub record Saves (d : Day) (least_total k price : ℕ) : Type 0 where
  pub plan : List ℕ
  pub cheapest : Cheapest (one_more d k) plan
  pub falls_by : total (one_more d k) plan + price ≡ least_total

-- one more landing in a period that has a price saves its price
abbrev pub PricesSave : Day → ℕ → List ℕ → Type 0
PricesSave d least_total prices = (k : ℕ) → 1 ≤ k → k ≤ counted d → Saves d least_total k (of_period prices k)

-- the flights that must land in the periods a to b: "those with due at least a and due + limit at most b, a missing limit reaching past P"
unfoldable pub must_land : Day → ℕ → ℕ → ℕ
must_land d a b = sum (N d) (λ i. gate (leb a (due d i) && leb (last d i) b) 1)

-- what "the capacities a to b add up to"
unfoldable pub room : Day → ℕ → ℕ → ℕ
room d a b = sum (b + 1) (λ k. gate (leb a k) (takes d k))

-- "A stretch of periods a to b, b at most P, is short if more flights must land in it than can"; with a closing line "stretches may now end at
-- P+1" (#108)
pub record Short (d : Day) (a b : ℕ) : Type 0 where
  pub from : 1 ≤ a
  pub stretch : a ≤ b
  pub to : b ≤ counted d
  pub short : room d a b < must_land d a b

-- the stretch that answer 9 names: "the one with the smallest last period, and among those the largest first period"
pub record Picked (d : Day) (a b : ℕ) : Type 0 where
  pub short : Short d a b
  pub smallest_last : (first last : ℕ) → Short d first last → b ≤ last
  pub largest_first : (first : ℕ) → Short d first b → first ≤ a

-- a landing of a flight in period k is after P+1 or over its limit, on a day of p periods: the "hold is too long"
unfoldable pub too_long_of : (p : ℕ) → Flight → (k : ℕ) → Bool
too_long_of p f k = ltb (p + 1) k || ltb (latest_of p f) k

abbrev pub too_long : Day → ℕ → ℕ → Bool
too_long d i = too_long_of (P d) (flight_at d.flights i)

-- a landing in period k, the m-th there, is over capacity; a closing period without a line takes any number
unfoldable pub over_capacity : (capacities : List ℕ) (closing k m : ℕ) → Bool
over_capacity capacities closing k m = leb k (counted_of (length capacities) closing) && ltb (takes_of capacities closing k) m

-- "For 10, walk the table: the first flight whose hold is too long, or whose period, counted with the flights before it, is over capacity";
-- the walk "counts the closing period against c too" (#108)
unfoldable pub breaks : Day → List ℕ → ℕ → Bool
unfolding too_long_of over_capacity
breaks d holds i =
    too_long d i (land d holds i)
    || over_capacity d.capacities d.closing (land d holds i) (count (suc i) (land d holds) (land d holds i))

-- the first of 0 .. n - 1 for which the test holds, or n
unfoldable pub first_of : ℕ → (ℕ → Bool) → ℕ
first_of zero f = 0
first_of (suc n) f = cond (f 0) 0 (suc (first_of n (λ i. f (suc i))))

-- the table place that refusal 10 names, or N where the row is legal
unfoldable pub first_break : Day → List ℕ → ℕ
unfolding first_of breaks
first_break d holds = first_of (N d) (breaks d holds)

-- refusal 8, "a jump above 0 or a limit"
unfoldable pub jump_or_limit : Flight → Bool
jump_or_limit f = ltb 0 f.jump || not (missing f.limit)

-- the table place that refusal 8 names, or N where the quick plan applies
unfoldable pub first_jump_or_limit : List ℕ → ℕ
unfolding first_of jump_or_limit
first_jump_or_limit flights = first_of (flight_count flights) (λ i. jump_or_limit (flight_at flights i))
