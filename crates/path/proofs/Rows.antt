-- Distances read in their row, and one stored.
-- Assumes nothing.
use mathlib.Core.Path.{◌≡◌, refl}
use mathlib.Core.List.{List, [], ◌∷◌}
use Prim.Native.Nat.{ℕ, zero, suc, ◌<◌}
use native.Mathlib.Omega.{arith}
use lib.ListN.{get_or, length, set}
use lib.Seq.{get_or-set_same, get_or-set_other}
use Rattle.assignment.specs.Moves.{Moved}
use Rattle.path.specs.Path.{far, away}

pub away_moved : (l : List ℕ) (i v : ℕ) → i < length l → Moved (away l) (away (set l i v)) i v
away_moved l i v b = record { here = get_or-set_same l i v far b; others = λ o e. get_or-set_other l i o v far e }

get_d_any : (l : List ℕ) (k a b : ℕ) → k < length l → get_or l k a ≡ get_or l k b
get_d_any [] k a b h = absurd (omega arith)
get_d_any (x ∷ l) zero a b h = refl
get_d_any (x ∷ l) (suc k) a b h = get_d_any l k a b (omega arith)

-- a distance that stands in its row
pub as_read : (l : List ℕ) (k : ℕ) → k < length l → get_or l k 0 ≡ away l k
as_read l k h = get_d_any l k 0 far h
