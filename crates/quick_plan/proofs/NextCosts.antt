-- What the next cost is in each of its cases, and on which days a plan is made with it.
-- Assumes nothing.
use mathlib.Core.Path.{◌≡◌, refl}
use mathlib.Core.Bool.{true}
use mathlib.Core.List.{List}
use Prim.Native.Nat.{ℕ, ◌-◌, ◌≤◌}
use native.Mathlib.Omega.{arith}
use lib.Dec.{leb}
use borrow.Author.Tests.{le-leb, leb-true}
use Rattle.assignment.proofs.Tests.{and_true}
use Rattle.day.specs.Day.{due_of, rate_of}
use Rattle.growth.specs.Growth.{most_growth, most_growth_periods, growth_fits, further_cost}
use Rattle.quick_plan.specs.declared.NextCost.{NextCost}
use Rattle.quick_plan.specs.declared.NextCost.TheVariants.{Rate, Growing}
use Rattle.quick_plan.specs.NextCost.{next_cost, fits}

pub growth_within : (a periods : ℕ) → growth_fits a periods ≡ true → (a ≤ most_growth) × (periods ≤ most_growth_periods)
unfolding growth_fits
growth_within a periods e = let w = and_true {a = leb a most_growth} e in (leb-true a most_growth w.0, leb-true periods most_growth_periods w.1)

-- by rates on every day
pub rate_fits : (periods : ℕ) → fits Rate periods ≡ true
unfolding fits
rate_fits periods = refl

-- if on a day, then on a shorter one
pub fits_to : (next : NextCost) {periods j : ℕ} → j ≤ periods → fits next periods ≡ true → fits next j ≡ true
unfolding fits growth_fits
fits_to Rate l e = refl
fits_to (Growing a) {periods = periods} {j = j} l e = let w = growth_within a periods e in rw (le-leb a most_growth w.0, le-leb j most_growth_periods (omega (arith, w.1)))

module _ (flights : List ℕ) (j i : ℕ) {next : NextCost} where
  pub next_rate : next ≡ Rate → {rate : ℕ} → rate ≡ rate_of flights i → rate ≡ next_cost next flights j i
  unfolding next_cost
  next_rate e read = rw e read

  module _ {a : ℕ} (e : next ≡ Growing a) where
    pub growing_within : fits next j ≡ true → (a ≤ most_growth) × (j ≤ most_growth_periods)
    unfolding fits
    growing_within known = growth_within a j (rw e at known)

    pub next_growing : {rate due cost : ℕ} → rate ≡ rate_of flights i → due ≡ due_of flights i → cost ≡ further_cost a rate (j - due) → cost ≡ next_cost next flights j i
    unfolding next_cost
    next_growing r u c = rw (e, ← r, ← u) c
