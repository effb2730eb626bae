-- The rule of the table of factors: one test that the checker computes over all 246 entries, and the law that turns it into the rule at
-- each entry. Which table is tested, the function says that returns it; its numbers stand in the source alone.
-- Assumes nothing.
use mathlib.Core.Path.{◌≡◌}
use mathlib.Core.Bool.{Bool, true}
use mathlib.Core.List.{List, []}
use Prim.Native.Nat.{ℕ, ◌+◌}
use native.Mathlib.Omega.{arith}
use lib.Dec.{eqb}
use lib.ListN.{get_or}
use borrow.Author.Tests.{eqb-true}
use Rattle.day.specs.Day.{all}
use Rattle.day.proofs.Tests.{all_at}
use Rattle.growth.specs.Growth.{most_growth, most_growth_periods, factor, HoldsFactors}

-- in every row each entry is its factor
unfoldable pub is_table : List (List ℕ) → Bool
is_table rows = all (most_growth + 1) (λ a. all most_growth_periods (λ t. eqb (get_or (get_or rows a []) t 0) (factor a t)))

pub table_rule : (rows : List (List ℕ)) → is_table rows ≡ true → HoldsFactors rows
unfolding is_table HoldsFactors
table_rule rows passed a t g l =
    let row_passed = all_at (most_growth + 1) _ passed a (omega arith) in
    eqb-true _ _ (all_at most_growth_periods _ row_passed t l)
