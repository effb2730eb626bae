-- The sum of the weights, as std makes it.
-- Assumes nothing.
use mathlib.Core.Path.{◌≡◌, refl}
use mathlib.Core.List.{List, ◌∷◌}
use Prim.Native.Nat.{ℕ, zero, suc, ◌+◌}
use native.Mathlib.Omega.{arith}
use lib.ListN.{length, get_or}
use Rattle.std.specs.List.{sum_by}
use Rattle.std.proofs.lemmas.List.Recursion.{is_sum_by}
use Rattle.assignment.specs.Sum.{sum}
use Rattle.forecast_plan.specs.Calls.{all_weights}

-- std's sum of a list is the sum of its entries by place
sum_first : (n : ℕ) (f : ℕ → ℕ) → sum (suc n) f ≡ f 0 + sum n (λ i. f (suc i))
unfolding sum
sum_first zero f = omega arith
sum_first (suc n) f = omega (arith, sum_first n f)

pub sum_of_list : (weights : List ℕ) → all_weights weights ≡ sum_by (λ x. x) weights
unfolding sum
sum_of_list = is_sum_by all_weights (λ x. x) refl (λ x xs. sum_first (length xs) (λ s. get_or (x ∷ xs) s 0))
