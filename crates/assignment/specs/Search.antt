-- The search by distance for a place for a new flight: periods are reached in the order of their distances, and the flights that land in a
-- reached period offer the periods of their windows.
-- Assumes nothing.
use Rattle.std.specs.Prelude.{◌≡◌, ◌⊎◌, ℕ, ◌+◌, ◌≤◌, ◌<◌, min}
use Rattle.assignment.specs.Assignment.{Instance, In}
use Rattle.assignment.specs.Moves.{Settled}

-- `turn k` is the turn in which period k was reached, 0 if it is not; `dist k` how far it is, and `via k` the flight by way of which it is so far

-- k was offered by flight i, whose landing is reached
pub record Step (d : Instance) (x p dist turn : ℕ → ℕ) (k i : ℕ) : Type 0 where
  pub who : i < d.n
  pub fits : In d i k
  pub from : 0 < turn (x i)
  pub lower : 0 < turn k → turn (x i) < turn k
  pub far : dist k + (d.cost i (x i) + p (x i)) ≡ dist (x i) + (d.cost i k + p k)

-- t periods are reached, via d .n stands for the new flight; from the last of them the flights from m on have offered. Whatever is no nearer
-- than the target z need not be known
pub record Near (d : Instance) (x p root dist turn via : ℕ → ℕ) (z t m : ℕ) : Type 0 where
  pub settled : Settled d x p
  pub low : (k : ℕ) → dist k ≤ root k
  pub how : (k : ℕ) → ((dist k ≡ root k) × (In d d.n k → root k ≡ d.cost d.n k + p k → via k ≡ d.n)) ⊎ Step d x p dist turn k (via k)
  pub top : (k : ℕ) → turn k ≤ t
  pub order : (j k : ℕ) → 0 < turn j → turn k ≡ 0 → dist j ≤ dist k
  pub last : (j k : ℕ) → 0 < turn j → turn k ≡ t → dist j ≤ dist k
  pub near : (i k : ℕ) → i < d.n → In d i k → 0 < turn (x i) → (turn (x i) < t) ⊎ (m ≤ i)
      → min (dist k) (dist z) + (d.cost i (x i) + p (x i)) ≤ dist (x i) + (d.cost i k + p k)

-- ---- from a landing at distance `from`, where it pays `base`, flight i offers the periods lo .. hi, where it pays `pays`

-- period k comes nearer, by way of flight i
pub record Took (lo hi : ℕ) (pays : ℕ → ℕ) (i from base : ℕ) (dist dist₂ via₂ : ℕ → ℕ) (k : ℕ) : Type 0 where
  pub from_lo : lo ≤ k
  pub to_hi : k ≤ hi
  pub less : from + pays k < dist k + base
  pub far : dist₂ k + base ≡ from + pays k
  pub by : via₂ k ≡ i

-- it stays as it was; an offer to it is no nearer than it is, or than the goal
pub record Kept (lo hi : ℕ) (pays : ℕ → ℕ) (from base goal : ℕ) (dist dist₂ via via₂ : ℕ → ℕ) (k : ℕ) : Type 0 where
  pub far : dist₂ k ≡ dist k
  pub by : via₂ k ≡ via k
  pub no_nearer : lo ≤ k → k ≤ hi → min (dist k) goal + base ≤ from + pays k

abbrev pub Offered : (lo hi : ℕ) (pays : ℕ → ℕ) (i from base goal : ℕ) (dist dist₂ via via₂ : ℕ → ℕ) → Type 0
Offered lo hi pays i from base goal dist dist₂ via via₂ =
    (k : ℕ) → Took lo hi pays i from base dist dist₂ via₂ k ⊎ Kept lo hi pays from base goal dist dist₂ via via₂ k
