-- What the search for the cheapest chain of moves asks and gives. Only inner contracts cite it.
-- Assumes nothing.
use Rattle.std.specs.Prelude.{◌≡◌, ◌⊎◌, ◌≢◌, List, ℕ, ◌+◌, ◌-◌, ◌*◌, ◌≤◌, ◌<◌, min, get_or, length, set}
use Rattle.assignment.specs.Sum.{count}
use Rattle.assignment.specs.Assignment.{Instance, In, Short}
use Rattle.assignment.specs.Rows.{el}
use Rattle.assignment.specs.Orders.{Permuted}
use Rattle.assignment.specs.Chains as chains
use Rattle.assignment.specs.Instances.{grown, ordered, restricted, opened}
use Rattle.assignment.specs.Search.{Near, Took, Kept}
use Rattle.assignment.specs.Insertion.{Sound}
use Rattle.day.specs.declared.Flight.{Flight}
use Rattle.day.specs.Day.{Day, N, day, most_flights, period_row, of_period, due, hold_cost, latest_of, hold, due_of}
use Rattle.day.specs.Valid.{Valid}
use Rattle.day.specs.Instance.{instance}
use Rattle.path.specs.declared.Origin.{Origin}

abbrev pub far : ℕ
far = 4611686018427387904

-- a distance that does not stand in its row is far
abbrev pub away : List ℕ → ℕ → ℕ
away dist k = get_or dist k far

-- more than any flight pays in any period
abbrev pub dearest : ℕ
dearest = 5000000000

-- what a landing in a closed period costs more in a search, which leaves such periods out
abbrev pub dear : ℕ
dear = far + dearest

-- how many may land in period k
abbrev pub room_in : Day → ℕ → ℕ
room_in d k = (instance d).cap k

-- the flights at the first n places
abbrev pub begun : Day → List ℕ → ℕ → Instance
begun d places n = opened (ordered (instance d) (el places) n) dear

-- none of them is to land beyond the target
abbrev pub scope : Day → List ℕ → ℕ → ℕ → Instance
scope d places n target = restricted (begun d places n) target

-- where the flight at place s lands
abbrev pub landing : (flights places holds : List ℕ) → ℕ → ℕ
landing flights places holds s = due_of flights (el places s) + hold holds (el places s)

-- a day that passes the check, and a row in which each of its table places stands once
pub record Table (d : Day) (places : List ℕ) : Type 0 where
  pub valid : Valid d
  pub row : N d ≤ length places
  pub permuted : Permuted (N d) (el places)

-- a row of chains: entries by period, then by place
abbrev pub chain_row : ℕ
chain_row = period_row + most_flights

-- the places whose flights land in the same period are chained: the row has the newest of each period, and behind these the one before each place
pub record Chained (x : ℕ → ℕ) (links : List ℕ) (n : ℕ) : Type 0 where
  pub row : length links ≡ chain_row
  pub chains : chains.Chained x period_row (el links) (λ s. el links (period_row + s)) n

-- a plan x of n flights with prices p, and a new flight; from its due period on, the target is the first period with room
pub record Scene (d : Instance) (x p : ℕ → ℕ) (target : ℕ) : Type 0 where
  pub sound : Sound d x p
  pub periods : d.m ≤ period_row
  pub pays : (i k : ℕ) → i ≤ d.n → In d i k → 0 < d.cap k → d.cost i k + p k ≤ dearest
  pub shut : (i k : ℕ) → d.cap k ≡ 0 → dear ≤ d.cost i k
  pub floor : (i : ℕ) → i < d.n → d.lo d.n ≤ d.lo i
  pub ceiling : (i : ℕ) → i ≤ d.n → d.lo i ≤ target → d.hi i ≤ target
  pub from : 1 ≤ d.lo d.n
  pub some : d.lo d.n ≤ d.hi d.n
  pub before : d.lo d.n ≤ target
  pub within : target < d.m
  pub full : (k : ℕ) → d.lo d.n ≤ k → k < target → d.cap k ≤ count d.n x k
  pub free : count d.n x target < d.cap target
  pub none_short : (a b : ℕ) → 1 ≤ a → a ≤ b → b < target → Short (grown d) a b → ⊥

-- the rows of a search: distances, the turn in which each period was reached (0: not yet), and by way of which place it is so far. The turns
-- stand in no row of the program
pub record Rows (dist turn via : List ℕ) : Type 0 where
  pub dists : length dist ≡ period_row
  pub turns : length turn ≡ period_row
  pub vias : length via ≡ period_row

-- t periods are reached, and from the last of them the flights from m on have offered; root is what the new flight pays
pub record Search (d : Instance) (x p : ℕ → ℕ) (target : ℕ) (dist turn via : List ℕ) (t m : ℕ) : Type 0 where
  pub rows : Rows dist turn via
  pub root : ℕ → ℕ
  pub rooted : (k : ℕ) → root k < far → In d d.n k × (root k ≡ d.cost d.n k + p k)
  pub reach : (k : ℕ) → In d d.n k → root k ≤ d.cost d.n k + p k
  pub near : Near d x p root (away dist) (el turn) (el via) target t m
  pub most : (k : ℕ) → away dist k ≤ far
  pub inside : (k : ℕ) → away dist k < far → (d.lo d.n ≤ k) × (k ≤ target) × (away dist k ≤ (t + 1) * dearest) × (0 < d.cap k)
  pub reached : (k : ℕ) → 0 < el turn k → (d.lo d.n ≤ k) × (k < target) × (away dist k ≤ t * dearest)
  pub zeros : t + count period_row (el turn) 0 ≡ period_row

-- period k was reached last
pub record Around (d : Instance) (x p : ℕ → ℕ) (target : ℕ) (dist turn via : List ℕ) (t k m : ℕ) : Type 0 where
  pub so_far : Search d x p target dist turn via t m
  pub some : 0 < t
  pub here : el turn k ≡ t
  pub only : (j : ℕ) → el turn j ≡ t → j ≡ k

-- ---- the list of the periods that are not reached

-- the periods of the list stand rising at places 0 .. left, the target last
pub record InList (list : List ℕ) (left target : ℕ) : Type 0 where
  pub row : length list ≡ period_row
  pub short : left < period_row
  pub ends : el list left ≡ target
  pub rising : (y z : ℕ) → y < z → z ≤ left → el list y < el list z

-- period j does not stand in the list: it would stand before place `place`
pub record Gap (list : List ℕ) (left j : ℕ) : Type 0 where
  pub place : ℕ
  pub to : place ≤ left
  pub below : j < el list place
  pub above : (z : ℕ) → z < place → el list z < j

-- period j stands at a place before `left`
pub record At (list : List ℕ) (left j : ℕ) : Type 0 where
  pub place : ℕ
  pub to : place < left
  pub is : el list place ≡ j

-- period j stands in the queue, at place t or behind
pub record Waits (queue : List ℕ) (t queued j : ℕ) : Type 0 where
  pub place : ℕ
  pub from : t ≤ place
  pub to : place < queued
  pub is : el queue place ≡ j

-- from the first period on, the list has the target and what is open, not reached and not in the queue
pub record Listed (cap : ℕ → ℕ) (list turn queue : List ℕ) (left first target t queued : ℕ) : Type 0 where
  pub shape : InList list left target
  pub low : (y : ℕ) → y ≤ left → first ≤ el list y
  pub fresh : (y : ℕ) → y < left → el turn (el list y) ≡ 0
  pub some : (y : ℕ) → y < left → 0 < cap (el list y)
  pub gaps : (j : ℕ) → Gap list left j → first ≤ j → 0 < cap j → (0 < el turn j) ⊎ Waits queue t queued j

-- an open period that is not reached, at distance `level`
pub record Waiting (cap : ℕ → ℕ) (dist turn : List ℕ) (first target level k : ℕ) : Type 0 where
  pub from : first ≤ k
  pub before : k < target
  pub some : 0 < cap k
  pub fresh : el turn k ≡ 0
  pub here : away dist k ≡ level

-- t periods are reached; the queue has those behind them that are as near as `level`, and nothing in the list is nearer
pub record Lined (cap : ℕ → ℕ) (dist turn list queue : List ℕ) (left first target level t queued : ℕ) : Type 0 where
  pub listed : Listed cap list turn queue left first target t queued
  pub low : (y : ℕ) → y ≤ left → level ≤ away dist (el list y)
  pub row : length queue ≡ period_row
  pub upto : t ≤ queued
  pub room : queued + left < period_row
  pub waits : (y : ℕ) → t ≤ y → y < queued → Waiting cap dist turn first target level (el queue y)
  pub apart : (y z : ℕ) → t ≤ y → y < z → z < queued → el queue y ≢ el queue z
  pub out : (y z : ℕ) → t ≤ y → y < queued → z < left → el queue y ≢ el list z

pub record CanList (list : List ℕ) (first target : ℕ) : Type 0 where
  pub row : length list ≡ period_row
  pub before : first ≤ target
  pub within : target < period_row

-- the open periods from first on, and the target
pub record Filled (capacities list : List ℕ) (first target left : ℕ) : Type 0 where
  pub short : left < period_row
  pub ends : el list left ≡ target
  pub rising : (y z : ℕ) → y < z → z ≤ left → el list y < el list z
  pub low : (y : ℕ) → y ≤ left → first ≤ el list y
  pub some : (y : ℕ) → y < left → 0 < of_period capacities (el list y)
  pub gaps : (j : ℕ) → Gap list left j → first ≤ j → of_period capacities j ≡ 0

-- ---- the nearest of them

-- nothing in the list is nearer than `level`
pub record CanNear (dist list : List ℕ) (left target level : ℕ) : Type 0 where
  pub dists : length dist ≡ period_row
  pub shape : InList list left target
  pub within : target < period_row
  pub low : (y : ℕ) → y ≤ left → level ≤ away dist (el list y)

-- the period at place `at` of the list is the nearest
pub record NearestIn (dist list : List ℕ) (left at : ℕ) : Type 0 where
  pub to : at ≤ left
  pub nearer : at < left → away dist (el list at) < away dist (el list left)
  pub least : (y : ℕ) → y ≤ left → away dist (el list at) ≤ away dist (el list y)

-- the period at place `at` is taken out, and those behind it move up
pub record Removed (list list₂ : List ℕ) (at left : ℕ) : Type 0 where
  pub before : (z : ℕ) → z < at → el list₂ z ≡ el list z
  pub behind : (z : ℕ) → at ≤ z → z < left → el list₂ z ≡ el list (z + 1)

-- some periods that are as near as `level` have gone from the list to the queue
pub record Levelled (dist list list₂ queue queue₂ : List ℕ) (left left₂ queued level : ℕ) : Type 0 where
  pub short : left₂ ≤ left
  pub ends : el list₂ left₂ ≡ el list left
  pub rising : (y z : ℕ) → y < z → z < left₂ → el list₂ y < el list₂ z
  pub stays : (y : ℕ) → y < left₂ → At list left (el list₂ y)
  pub goes : (y : ℕ) → queued ≤ y → y < queued + (left - left₂) → At list left (el queue₂ y) × (away dist (el queue₂ y) ≡ level)
  pub apart : (y z : ℕ) → queued ≤ y → y < z → z < queued + (left - left₂) → el queue₂ y ≢ el queue₂ z
  pub out : (y z : ℕ) → queued ≤ y → y < queued + (left - left₂) → z < left₂ → el queue₂ y ≢ el list₂ z
  pub all : (j : ℕ) → At list left j → At list₂ left₂ j ⊎ Waits queue₂ queued (queued + (left - left₂)) j

pub record CanLevel (dist list queue : List ℕ) (at left target queued : ℕ) : Type 0 where
  pub dists : length dist ≡ period_row
  pub shape : InList list left target
  pub within : target < period_row
  pub queue_row : length queue ≡ period_row
  pub room : queued + left < period_row
  pub before : at < left

-- `level` is the least distance in the list; what is as near goes to the queue, unless the target is
pub record NextLevel (dist list list₂ queue queue₂ : List ℕ) (left left₂ queued target : ℕ) : Type 0 where
  pub level : ℕ
  pub levelled : Levelled dist list list₂ queue queue₂ left left₂ queued level
  pub least : (y : ℕ) → y ≤ left → level ≤ away dist (el list y)
  pub more : left₂ < left → level < away dist target
  pub none : left ≤ left₂ → away dist target ≤ level

-- k is the nearest open period of first .. target that is not reached
pub record Nearest (cap : ℕ → ℕ) (dist turn : List ℕ) (first target k : ℕ) : Type 0 where
  pub from : first ≤ k
  pub to : k ≤ target
  pub fresh : k ≢ target → el turn k ≡ 0
  pub near : k ≢ target → away dist k < far
  pub some : k ≢ target → 0 < cap k
  pub least : (j : ℕ) → first ≤ j → j < target → 0 < cap j → el turn j ≡ 0 → away dist k ≤ away dist j
  pub target_least : away dist k ≤ away dist target

-- period k comes to the distance v by way of `who`, if that is nearer
pub record Nearer (dist dist₂ via via₂ : List ℕ) (k v who : ℕ) : Type 0 where
  pub cases : ((v < away dist k) × (dist₂ ≡ set dist k v) × (via₂ ≡ set via k who))
      ⊎ ((away dist k ≤ v) × (dist₂ ≡ dist) × (via₂ ≡ via))

-- ---- the offers of one flight

-- the periods of the list before place z are before `due`, the others are not; the last may be
pub record FirstFrom (list : List ℕ) (left due z : ℕ) : Type 0 where
  pub to : z ≤ left
  pub before : (y : ℕ) → y < z → el list y < due
  pub there : z < left → due ≤ el list z

-- what a flight pays in period k
abbrev pub pays : Flight → List ℕ → ℕ → ℕ
pays f prices k = hold_cost f (k - f.due) + of_period prices k

-- the last period that it may offer: none behind the target matters, so that a missing limit may as well end there
abbrev pub offers_to : Flight → ℕ → ℕ
offers_to f target = min (latest_of (target - 1) f) target

pub record CanOffer (f : Flight) (o : Origin) (prices list dist via : List ℕ) (left target : ℕ) : Type 0 where
  pub shape : InList list left target
  pub within : target < period_row
  pub dists : length dist ≡ period_row
  pub vias : length via ≡ period_row
  pub prices_row : target ≤ length prices + 1
  pub free : of_period prices target ≡ 0
  pub from_due : 1 ≤ f.due
  pub by_target : f.due ≤ target
  pub low : o.from ≤ period_row * dearest
  pub base_low : o.base ≤ dearest
  pub most : away dist target ≤ far
  pub fair : (y : ℕ) → y ≤ left → f.due ≤ el list y → el list y ≤ offers_to f target
      → (o.base ≤ o.from + pays f prices (el list y)) × (pays f prices (el list y) ≤ dearest)

-- each period of the list comes nearer, or an offer to it is no nearer than it is or than the target
pub record Offers (f : Flight) (o : Origin) (prices list dist dist₂ via via₂ : List ℕ) (left target : ℕ) : Type 0 where
  pub listed : (y : ℕ) → y ≤ left
      → Took f.due (offers_to f target) (pays f prices) o.who o.from o.base (away dist) (away dist₂) (el via₂) (el list y)
      ⊎ Kept f.due (offers_to f target) (pays f prices) o.from o.base (away dist target) (away dist) (away dist₂) (el via) (el via₂) (el list y)
  pub others : (j : ℕ) → ((y : ℕ) → y ≤ left → el list y ≢ j) → (away dist₂ j ≡ away dist j) × (el via₂ j ≡ el via j)

-- ---- the search

-- a plan x of the flights at the first n places, in its rows, and a new flight at place n
pub record Ready (d : Day) (x : ℕ → ℕ) (places links prices : List ℕ) (n target : ℕ) : Type 0 where
  pub table : Table d places
  pub scene : Scene (scope d places n target) x (of_period prices) target
  pub upto : n < N d
  pub chained : Chained x links n
  pub prices_row : target ≤ length prices + 1

pub record CanExpand (d : Day) (x : ℕ → ℕ) (places links prices list dist via : List ℕ) (n left target k : ℕ) : Type 0 where
  pub ready : Ready d x places links prices n target
  pub dists : length dist ≡ period_row
  pub vias : length via ≡ period_row
  pub to : k < target
  pub near : away dist k ≤ period_row * dearest
  pub most : (j : ℕ) → away dist j ≤ far
  pub shape : InList list left target
  pub here : 0 < room_in d k
  pub some : (y : ℕ) → y ≤ left → 0 < room_in d (el list y)
  pub passed : (j : ℕ) → Gap list left j → due d (el places n) ≤ j → 0 < room_in d j → away dist j ≤ away dist k

-- the flights that land in k have offered: nothing is farther, and k as far as it was
pub record Expanded (d : Instance) (x p : ℕ → ℕ) (target : ℕ) (dist dist₂ via via₂ : List ℕ) (k : ℕ) : Type 0 where
  pub keeps : (turn : List ℕ) (t : ℕ) → Around d x p target dist turn via t k d.n → Around d x p target dist₂ turn via₂ t k 0 × (away dist₂ k ≡ away dist k)
  pub falls : (j : ℕ) → away dist₂ j ≤ away dist j

-- there is a day with these flights, and a plan of some of them
pub record CanExpandSome (flights places links prices list dist via : List ℕ) (left target k : ℕ) : Type 0 where
  pub capacities : List ℕ
  pub closing : ℕ
  pub x : ℕ → ℕ
  pub n : ℕ
  pub can : CanExpand (day capacities flights closing) x places links prices list dist via n left target k

-- whatever the day and the plan are
abbrev pub ExpandedAll : (flights places links prices list dist dist₂ via via₂ : List ℕ) (left target k : ℕ) → Type 0
ExpandedAll flights places links prices list dist dist₂ via via₂ left target k =
    (capacities : List ℕ) (closing : ℕ) (x : ℕ → ℕ) (n : ℕ) → CanExpand (day capacities flights closing) x places links prices list dist via n left target k
    → Expanded (scope (day capacities flights closing) places n target) x (of_period prices) target dist dist₂ via via₂ k

-- all is far
pub record CanSearch (d : Day) (x : ℕ → ℕ) (places links prices dist via : List ℕ) (n target : ℕ) : Type 0 where
  pub ready : Ready d x places links prices n target
  pub dists : length dist ≡ period_row
  pub vias : length via ≡ period_row
  pub all_far : (k : ℕ) → away dist k ≡ far

-- the target is the nearest of the periods that are not reached, and it is not far
pub record Searched (d : Instance) (x p : ℕ → ℕ) (target : ℕ) (dist via : List ℕ) : Type 0 where
  pub turn : List ℕ
  pub t : ℕ
  pub so_far : Search d x p target dist turn via t 0
  pub least : (k : ℕ) → el turn k ≡ 0 → away dist target ≤ away dist k
  pub near : away dist target < far

-- there is a plan; whatever it is
pub record CanSearchSome (d : Day) (places links prices dist via : List ℕ) (n target : ℕ) : Type 0 where
  pub x : ℕ → ℕ
  pub can : CanSearch d x places links prices dist via n target

abbrev pub SearchedAll : (d : Day) (places links prices dist dist₂ via via₂ : List ℕ) (n target : ℕ) → Type 0
SearchedAll d places links prices dist dist₂ via via₂ n target =
    (x : ℕ → ℕ) → CanSearch d x places links prices dist via n target → Searched (scope d places n target) x (of_period prices) target dist₂ via₂
