-- One flight moved, and plans from which no flight gains by moving.
-- Assumes nothing.
use Rattle.std.specs.Prelude.{◌≡◌, ◌≢◌, cond, ℕ, ◌+◌, ◌≤◌, ◌<◌, eqb}
use Rattle.assignment.specs.Assignment.{Instance, In, Plan}

-- y is x but for flight i, which lands in k
pub record Moved (x y : Plan) (i k : ℕ) : Type 0 where
  pub here : y i ≡ k
  pub others : (o : ℕ) → o ≢ i → y o ≡ x o

-- that plan
unfoldable pub put : Plan → ℕ → ℕ → Plan
put x i k l = cond (eqb l i) k (x l)

-- each flight lands in its window, and pays least there
pub record Settled (d : Instance) (x p : ℕ → ℕ) : Type 0 where
  pub window : (i : ℕ) → i < d.n → In d i (x i)
  pub best : (i k : ℕ) → i < d.n → In d i k → d.cost i (x i) + p (x i) ≤ d.cost i k + p k
