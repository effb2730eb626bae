-- The loop of `nearest`.
-- Assumes nothing.
use mathlib.Core.Path.{◌≡◌}
use mathlib.Core.Logic.{inl, inr}
use mathlib.Core.List.{List}
use Prim.Native.Nat.{ℕ, ◌+◌, ◌≤◌, ◌<◌}
use native.Mathlib.Omega.{arith}
use lib.ListN.{get_or, length, take}
use lib.Seq.{get_or-take, length-take-le}
use Rattle.assignment.specs.Rows.{el}
use Rattle.assignment.proofs.Tests.{eq?}
use Rattle.day.specs.Day.{period_row}
use Rattle.path.specs.Path.{away, CanNear, NearestIn}
use Rattle.path.proofs.Rows.{as_read}
use Rattle.path.proofs.Listing.{list_to}

-- what stands at an index of the part of the list before the target
pub listed : {dist list : List ℕ} {left target level z : ℕ} → CanNear dist list left target level → z < length (take left list) → (get_or (take left list) z 0 ≡ el list z) × (z < left)
listed {list = list} {left} {z = z} c l =
    let b : z < left = omega (arith, length-take-le left list (omega (arith, c.shape.row, c.shape.short))) in
    (get_or-take left list z 0 b, b)

-- of the places before z, `at` has the nearest so far
pub record Scan (dist list : List ℕ) (left target level best at z : ℕ) : Type 0 where
  pub can : CanNear dist list left target level
  pub to : at ≤ left
  pub upper : z ≤ left
  pub is : best ≡ away dist (el list at)
  pub most : best ≤ away dist (el list left)
  pub nearer : at < left → best < away dist (el list left)
  pub least : (y : ℕ) → y < z → best ≤ away dist (el list y)

module _ {dist list : List ℕ} {left target level : ℕ} (c : CanNear dist list left target level) where
  pub scan_room : target < length dist
  scan_room = omega (arith, c.dists, c.within)

  goal : get_or dist target 0 ≡ away dist (el list left)
  goal = rw c.shape.ends (as_read dist target scan_room)

module _ {dist list : List ℕ} {left target level best at z : ℕ} (s : Scan dist list left target level best at z) where
  module _ (l : z < left) where
    pub scan_in : (z < length list) × (el list z < length dist) × (z < period_row) × (el list z < period_row)
    scan_in = omega (arith, s.can.dists, s.can.shape.row, s.can.shape.short, s.can.within, list_to s.can.shape z (omega arith))

    same : get_or dist (el list z) 0 ≡ away dist (el list z)
    same = as_read dist (el list z) scan_in.1

    next_least : (b : ℕ) → b ≤ best → b ≤ away dist (el list z) → (y : ℕ) → y < z + 1 → b ≤ away dist (el list y)
    next_least b low here y less = elim (eq? y z) [ inl e ↦ rw e here | inr e ↦ omega (arith, s.least y (omega arith)) ]

    pub scan_farther : best ≤ get_or dist (el list z) 0 → Scan dist list left target level best at (z + 1)
    scan_farther e = record {
      can = s.can;
      to = s.to;
      upper = omega arith;
      is = s.is;
      most = s.most;
      nearer = s.nearer;
      least = next_least best (omega arith) (omega (arith, same));
    }

    pub scan_nearer : get_or dist (el list z) 0 < best → Scan dist list left target level (get_or dist (el list z) 0) z (z + 1)
    scan_nearer e = record {
      can = s.can;
      to = omega arith;
      upper = omega arith;
      is = same;
      most = omega (arith, s.most);
      nearer = λ _. omega (arith, s.most);
      least = next_least (get_or dist (el list z) 0) (omega arith) (omega (arith, same));
    }

    -- nothing is nearer than the level
    pub scan_level : get_or dist (el list z) 0 < best → get_or dist (el list z) 0 ≤ level → NearestIn dist list left z
    scan_level e low = record {
      to = omega arith;
      nearer = λ _. omega (arith, same, s.most);
      least = λ y b. omega (arith, same, s.can.low y b);
    }
