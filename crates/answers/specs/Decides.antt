-- Yes or no to a statement.
-- Assumes nothing.
use Rattle.std.specs.Prelude.{◌≡◌, Bool, true, false}

-- the answer r is yes exactly if A holds
pub record Decides (r : Bool) (A : Type 0) : Type 0 where
  pub yes : r ≡ true → A
  pub no : r ≡ false → A → ⊥
