-- What is known while flights get their holds one after another, and while holds are taken back. Only inner contracts cite it.
-- Assumes nothing.
use Rattle.std.specs.Prelude.{◌≡◌, Bool, true, false, List, ℕ, ◌+◌, ◌≤◌, ◌<◌, length, Option, Some, None}
use Rattle.day.specs.Day.{Day, N, of_period, takes_of, counted_of, valid}
use Rattle.day.specs.Plan.{breaks}
use Rattle.completion.specs.Rest.{Completed, Unbroken, places_left}

-- the front of the row has what each of the n counted periods takes
pub record AllPlaces (capacities : List ℕ) (closing : ℕ) (left : List ℕ) (n : ℕ) : Type 0 where
  pub counted_is : n ≡ counted_of (length capacities) closing
  pub there : n ≤ length left
  pub each : (k : ℕ) → 1 ≤ k → k ≤ n → of_period left k ≡ takes_of capacities closing k

-- the first i flights of a valid day have holds that break nothing, and the row has the places that they leave; holds from i on are free
pub record Partial (d : Day) (holds left : List ℕ) (i : ℕ) : Type 0 where
  pub good : valid d ≡ true
  pub each : length holds ≡ N d
  pub upto : i ≤ N d
  pub unbroken : Unbroken d holds i
  pub left_is : left ≡ places_left d holds i

-- the flight at table place i has landed too, or its hold breaks the row and nothing changed
abbrev pub Landed : Day → (holds left : List ℕ) → ℕ → Bool → Type 0
Landed d holds left i true = Partial d holds left (i + 1)
Landed d holds left i false = (breaks d holds i ≡ true) × Partial d holds left i

-- of the first i flights' holds so many can be completed, and not one more; or the day has no legal plan
abbrev pub MostCompleted : Day → List ℕ → ℕ → Option ℕ → Type 0
MostCompleted d holds i (Some m) = (m ≤ i) × (Completed d holds m × (m < i → Completed d holds (m + 1) → ⊥))
MostCompleted d holds i None = Completed d holds 0 → ⊥
