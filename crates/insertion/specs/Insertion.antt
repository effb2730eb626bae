-- What the insertion of all flights asks and gives, and what its steps do. Only inner contracts cite it.
-- Assumes nothing.
use Rattle.std.specs.Prelude.{◌≡◌, ◌⊎◌, List, ℕ, suc, ◌+◌, ◌-◌, ◌*◌, ◌≤◌, ◌<◌, length, set}
use Rattle.assignment.specs.Sum.{count}
use Rattle.assignment.specs.Assignment as A
use Rattle.assignment.specs.Rows.{el}
use Rattle.assignment.specs.Moves.{Moved, put}
use Rattle.assignment.specs.Orders.{Permuted}
use Rattle.assignment.specs.Insertion.{Sound, Going}
use Rattle.day.specs.Day.{Day, P, N, most_periods, most_flights, period_row, width, flight_count, of_period, due, total, unlimited, takes_of, due_of}
use Rattle.day.specs.Plan.{Smallest, PricesSave, Short}
use Rattle.path.specs.Path.{far, away, begun, landing, Table, Chained}

-- the flights at the first n places are placed: the hold row has their holds, the price row their prices; the others follow, due falling,
-- and their holds may be any numbers. The day has no closing line: the insertion plans without, and the full plan's proof shows that this is
-- enough
pub record Placed (d : Day) (places holds prices : List ℕ) (n : ℕ) : Type 0 where
  pub table : Table d places
  pub no_line : d.closing ≡ unlimited
  pub falling : (s t : ℕ) → s ≤ t → n ≤ t → t < N d → due d (el places t) ≤ due d (el places s)
  pub none_short : (a b : ℕ) → Short d a b → ⊥
  pub upto : n ≤ N d
  pub holds_row : length holds ≡ N d
  pub prices_row : length prices ≡ P d
  pub sound : Sound (begun d places n) (landing d.flights places holds) (of_period prices)

-- the cost of their plan
abbrev pub cost_of_placed : Day → List ℕ → List ℕ → ℕ → ℕ
cost_of_placed d places holds n = A.total (begun d places n) (landing d.flights places holds)

-- ---- what is kept beside the plan

-- how many of the n flights land in each period, the chains of those that land in the same, and the rows of a search, before the next
pub record Kept (d : Day) (places holds loads links dist via : List ℕ) (n : ℕ) : Type 0 where
  pub loads_row : length loads ≡ period_row
  pub loads_are : (k : ℕ) → k < period_row → el loads k ≡ count n (landing d.flights places holds) k
  pub chained : Chained (landing d.flights places holds) links n
  pub dists : length dist ≡ period_row
  pub vias : length via ≡ period_row
  pub all_far : (k : ℕ) → away dist k ≡ far

-- one flight more lands in k, at place n
pub record Added (loads loads₂ links links₂ : List ℕ) (n k : ℕ) : Type 0 where
  pub counted : loads₂ ≡ set loads k (el loads k + 1)
  pub linked : links₂ ≡ set (set links (period_row + n) (el links k)) k (n + 1)

-- outside of first .. target all is far
pub record CanForget (dist : List ℕ) (first target : ℕ) : Type 0 where
  pub dists : length dist ≡ period_row
  pub within : target < period_row
  pub outside : (k : ℕ) → (k < first) ⊎ (target < k) → away dist k ≡ far

pub record Forgotten (dist : List ℕ) : Type 0 where
  pub all_far : (k : ℕ) → away dist k ≡ far

-- ---- the first period with room

pub record CanFind (capacities loads : List ℕ) (first : ℕ) : Type 0 where
  pub few : length capacities ≤ most_periods
  pub rows : length loads ≡ period_row
  pub from : 1 ≤ first
  pub to : first ≤ length capacities + 1
  pub closing : el loads (length capacities + 1) < takes_of capacities unlimited (length capacities + 1)

-- k is the first period from `first` on that has room; the closing period, which takes everyone without a closing line, always has
pub record FirstRoom (capacities loads : List ℕ) (first k : ℕ) : Type 0 where
  pub from : first ≤ k
  pub to : k ≤ length capacities + 1
  pub full : (j : ℕ) → first ≤ j → j < k → takes_of capacities unlimited j ≤ el loads j
  pub free : el loads k < takes_of capacities unlimited k

-- ---- the walk back

-- a row in which each table place of a row of flights stands once
pub record EachOnce (flights places : List ℕ) : Type 0 where
  pub whole : length flights ≡ flight_count flights * width
  pub few : flight_count flights ≤ most_flights
  pub row : flight_count flights ≤ length places
  pub permuted : Permuted (flight_count flights) (el places)

-- a flight of plan x, which lands in a period that was reached before k, is to land in k
pub record Hop (x : ℕ → ℕ) (turn via : List ℕ) (n k : ℕ) : Type 0 where
  pub who : el via k < n
  pub in_day : x (el via k) < period_row
  pub some : 0 < el turn (x (el via k))
  pub lower : el turn (x (el via k)) < el turn k

-- period k is for the new flight or for one of the plan, and the flight is due by k
pub record Linked (flights places : List ℕ) (x : ℕ → ℕ) (turn via : List ℕ) (n k : ℕ) : Type 0 where
  pub due_by_lem : due_of flights (el places (el via k)) ≤ k
  pub flight : (el via k ≡ n) ⊎ Hop x turn via n k

-- the periods were reached in some turns, the target after all others
pub record CanWalk (flights places holds via : List ℕ) (n target : ℕ) : Type 0 where
  pub once : EachOnce flights places
  pub upto : n < flight_count flights
  pub holds_row : length holds ≡ flight_count flights
  pub vias : length via ≡ period_row
  pub within : target < period_row
  pub turn : List ℕ
  pub some : 0 < el turn target
  pub latest : el turn target ≤ period_row + 1
  pub chain : (k : ℕ) → k < period_row → 0 < el turn k → el turn k ≤ el turn target → Linked flights places (landing flights places holds) turn via n k

-- the new flight takes the last place, `at`
pub record Arrived (d : A.Instance) (x₀ y q places via : ℕ → ℕ) (u z : ℕ) : Type 0 where
  pub at : ℕ
  pub x : ℕ → ℕ
  pub going : Going d x₀ x q places via u z at
  pub new : via at ≡ d.n
  pub last : Moved x y d.n at

-- the periods of the places: those of the flights that are placed, and the target for the new one
abbrev pub home : (flights places holds : List ℕ) → ℕ → ℕ → ℕ → ℕ
home flights places holds n target = put (landing flights places holds) n target

-- the first n + 1 flights have changed places by σ, and each lands in the period of its place; that is plan y
pub record Walked (flights places places₂ holds holds₂ via : List ℕ) (n target : ℕ) : Type 0 where
  pub once : EachOnce flights places₂
  pub σ : ℕ → ℕ
  pub permuted : Permuted (suc n) σ
  pub moved : (s : ℕ) → s < suc n → el places₂ s ≡ el places (σ s)
  pub beyond : (s : ℕ) → n < s → el places₂ s ≡ el places s
  pub at_home : (s : ℕ) → s < suc n → landing flights places₂ holds₂ s ≡ home flights places holds n target s
  pub y : ℕ → ℕ
  pub lands_are : (s : ℕ) → s < suc n → landing flights places₂ holds₂ s ≡ y (σ s)
  pub keeps : (i : A.Instance) (q order : ℕ → ℕ) (u : ℕ) → i.n ≡ n
      → Going i (landing flights places holds) (landing flights places holds) q order (el via) u target target
      → Arrived i (landing flights places holds) y q order (el via) u target

-- ---- the raise

pub record CanRaise (prices dist : List ℕ) (first target : ℕ) : Type 0 where
  pub few : length prices ≤ most_periods
  pub dists : length dist ≡ period_row
  pub from : 1 ≤ first
  pub to : target ≤ length prices + 1
  pub low : (k : ℕ) → of_period prices k + (away dist target - away dist k) ≤ 4294967295
  pub before : (k : ℕ) → k < first → away dist target ≤ away dist k
  pub behind : (k : ℕ) → target < k → away dist target ≤ away dist k

-- each price rises by what its period is nearer than the target
pub record Raised (prices prices₂ dist : List ℕ) (target : ℕ) : Type 0 where
  pub rise : (k : ℕ) → of_period prices₂ k ≡ of_period prices k + (away dist target - away dist k)

-- ---- one flight after the other

pub record Inserted (d : Day) (places places₂ holds holds₂ prices₂ : List ℕ) (n added : ℕ) : Type 0 where
  pub placed : Placed d places₂ holds₂ prices₂ (n + 1)
  pub adds : cost_of_placed d places₂ holds₂ (n + 1) ≡ cost_of_placed d places holds n + added

-- a day that has no short stretch, and rows of its sizes
pub record CanInsert (d : Day) (holds prices : List ℕ) : Type 0 where
  pub none_short : (a b : ℕ) → Short d a b → ⊥
  pub holds_row : length holds ≡ N d
  pub prices_row : length prices ≡ P d

-- the smallest prices, each of them what one more landing in its period saves
pub record Planned (d : Day) (holds prices : List ℕ) (cost : ℕ) : Type 0 where
  pub is_total : cost ≡ total d holds
  pub smallest : Smallest d holds prices
  pub saves : PricesSave d (total d holds) prices
