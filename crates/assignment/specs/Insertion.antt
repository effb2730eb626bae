-- The invariant of the insertions, and of the walk that moves flights to make room for a new one.
-- Assumes nothing.
use Rattle.std.specs.Prelude.{◌≡◌, ◌⊎◌, ℕ, ◌+◌, ◌≤◌, ◌<◌, eqb}
use Rattle.assignment.specs.Sum.{gate, count}
use Rattle.assignment.specs.Assignment.{Instance, In, total, Accepted}
use Rattle.assignment.specs.Moves.{Settled}

-- ---- prices that are held up: `height` says how high each period stands above one of price 0

-- a flight that lands in a lower period may as well land in k
pub record Link (d : Instance) (x q height : ℕ → ℕ) (k : ℕ) : Type 0 where
  pub by : ℕ
  pub who : by < d.n
  pub fits : In d by k
  pub lower : height (x by) < height k
  pub tie : d.cost by k + q k ≡ d.cost by (x by) + q (x by)

-- the price of k is 0, or a flight that lands in a lower period may as well land there
abbrev pub Held : (d : Instance) (x q height : ℕ → ℕ) (k : ℕ) → Type 0
Held d x q height k = (q k ≡ 0) ⊎ Link d x q height k

-- the invariant of the insertions: the price check, and every price is held up
pub record Sound (d : Instance) (x q : ℕ → ℕ) : Type 0 where
  pub accepted : Accepted d x q
  pub height : ℕ → ℕ
  pub held : (k : ℕ) → Held d x q height k

-- ---- the walk back from z: `at` is to take the next flight

-- the new flight may land in k and pays u there
pub record Root (d : Instance) (q : ℕ → ℕ) (u k : ℕ) : Type 0 where
  pub fits : In d d.n k
  pub pays : d.cost d.n k + q k ≡ u

-- flight i, which lands in a period that is earlier in the order, may as well land in k
pub record Hop (d : Instance) (x q order : ℕ → ℕ) (k i : ℕ) : Type 0 where
  pub who : i < d.n
  pub fits : In d i k
  pub lower : order (x i) < order k
  pub tie : d.cost i k + q k ≡ d.cost i (x i) + q (x i)

abbrev pub Tree : (d : Instance) (x q order via : ℕ → ℕ) (u k : ℕ) → Type 0
Tree d x q order via u k = ((via k ≡ d.n) × Root d q u k) ⊎ Hop d x q order k (via k)

-- k is held up; if it was walked over, by a flight that was
pub record Firm (d : Instance) (x q order height : ℕ → ℕ) (z at k : ℕ) : Type 0 where
  pub link : Link d x q height k
  pub apart : height k ≤ order z → order at ≤ order (x link.by)

pub record Going (d : Instance) (x₀ x q order via : ℕ → ℕ) (u z at : ℕ) : Type 0 where
  pub settled : Settled d x q
  pub counts : (j : ℕ) → count d.n x j + gate (eqb at j) 1 ≡ count d.n x₀ j + gate (eqb z j) 1
  pub costs : total d x + q z ≡ total d x₀ + q at
  pub tree : (k : ℕ) → order k ≤ order at → Tree d x q order via u k
  pub height : ℕ → ℕ
  pub low : height at + order at ≤ order z
  pub apart : (k : ℕ) → height k ≤ order z → order at ≤ order k
  pub held : (k : ℕ) → (q k ≡ 0) ⊎ (Root d q u k × (order z < height k)) ⊎ Firm d x q order height z at k
