-- Flights assigned to periods: windows, costs and capacities as functions of numbers, whatever rows they are kept in.
-- Every period is alike: a period that takes any number has a capacity that the flights cannot fill.
-- Assumes nothing.
use Rattle.std.specs.Prelude.{◌≡◌, ◌&&◌, ℕ, ◌+◌, ◌≤◌, ◌<◌, leb}
use Rattle.assignment.specs.Sum.{gate, sum, count}

-- n flights, and periods below m; flight i may land in the periods lo i .. hi i
pub record Instance : Type 0 where
  pub n : ℕ
  pub m : ℕ
  pub lo : ℕ → ℕ
  pub hi : ℕ → ℕ
  pub cost : ℕ → ℕ → ℕ
  pub cap : ℕ → ℕ
  pub within : (i : ℕ) → hi i < m

-- flight i may land in period k
pub record In (d : Instance) (i k : ℕ) : Type 0 where
  pub from : d.lo i ≤ k
  pub to : k ≤ d.hi i

-- a plan says in which period each flight lands
abbrev pub Plan : Type 0
Plan = ℕ → ℕ

pub record Legal (d : Instance) (x : Plan) : Type 0 where
  pub window : (i : ℕ) → i < d.n → In d i (x i)
  pub room : (k : ℕ) → count d.n x k ≤ d.cap k

unfoldable pub total : Instance → Plan → ℕ
total d x = sum d.n (λ i. d.cost i (x i))

-- legal, and no legal plan costs less
pub record Cheapest (d : Instance) (x : Plan) : Type 0 where
  pub legal : Legal d x
  pub least : (y : Plan) → Legal d y → total d x ≤ total d y

-- the price p k of a period that is not full is 0, and each flight's cost and price together are least in its window
pub record Accepted (d : Instance) (x p : ℕ → ℕ) : Type 0 where
  pub legal : Legal d x
  pub unsold : (k : ℕ) → count d.n x k < d.cap k → p k ≡ 0
  pub best : (i k : ℕ) → i < d.n → In d i k → d.cost i (x i) + p (x i) ≤ d.cost i k + p k

-- how many flights can land in the periods a .. b alone, and how many landings those periods take
unfoldable pub must_land : Instance → ℕ → ℕ → ℕ
must_land d a b = sum d.n (λ i. gate (leb a (d.lo i) && leb (d.hi i) b) 1)

unfoldable pub room : Instance → ℕ → ℕ → ℕ
room d a b = sum (b + 1) (λ k. gate (leb a k) (d.cap k))

-- more flights must land in a .. b than can
pub record Short (d : Instance) (a b : ℕ) : Type 0 where
  pub short : room d a b < must_land d a b
