-- The two parts of the price check that follow legality, from period k and for flight i.
-- Assumes nothing.
use Rattle.std.specs.Prelude.{◌≡◌, List, ℕ, ◌+◌, ◌-◌, ◌≤◌, ◌<◌}
use Rattle.day.specs.Day.{Day, due, of_period, takes, cost, Window, hold, land, landings}

-- "a period 1 to P that isn't full has price 0", and the closing period where its landings are counted (#108)
pub record Unsold (d : Day) (holds prices : List ℕ) (k : ℕ) : Type 0 where
  pub free : landings d holds k < takes d k → of_period prices k ≡ 0

-- "each flight's cost plus the price of its landing period is least"
abbrev pub Least : Day → (holds prices : List ℕ) → (i k : ℕ) → Type 0
Least d holds prices i k = cost d i (hold holds i) + of_period prices (land d holds i) ≤ cost d i (k - due d i) + of_period prices k

pub record Best (d : Day) (holds prices : List ℕ) (i : ℕ) : Type 0 where
  pub least : (k : ℕ) → Window d i k → Least d holds prices i k
