-- Growing cost of waiting (#105): what a period of hold costs, in millionths, where "a growth of a tenths" is given for the day.
-- Assumes nothing.
use Rattle.std.specs.Prelude.{◌≡◌, Bool, ◌&&◌, List, [], ℕ, ◌+◌, ◌-◌, ◌*◌, ◌^◌, ◌≤◌, ◌<◌, leb, get_or}
use Rattle.assignment.specs.Sum.{sum}

-- "a from 0 to 40", "a whole day of at most 6 periods"
abbrev pub most_growth : ℕ
most_growth = 40

abbrev pub most_growth_periods : ℕ
most_growth_periods = 6

unfoldable pub growth_fits : (a periods : ℕ) → Bool
growth_fits a periods = leb a most_growth && leb periods most_growth_periods

-- what the t-th further period of hold costs, t from 0, in millionths of the rate: "(10 + a)^t × 10^(6−t)"
unfoldable pub factor : (a t : ℕ) → ℕ
factor a t = (10 + a) ^ t * 10 ^ (6 - t)

-- these rows hold the factors, a row for each growth (#106): "Each entry is proved to be its factor."
unfoldable pub HoldsFactors : List (List ℕ) → Type 0
HoldsFactors rows = (a t : ℕ) → a ≤ most_growth → t < most_growth_periods → get_or (get_or rows a []) t 0 ≡ factor a t

-- "The t-th further period of hold, t from 0, costs rate × (10 + a)^t × 10^(6−t) millionths."
unfoldable pub further_cost : (a rate t : ℕ) → ℕ
further_cost a rate t = rate * factor a t

-- what a hold of h periods costs: the further periods 0 to h - 1
unfoldable pub growth_cost : (a rate h : ℕ) → ℕ
growth_cost a rate h = sum h (further_cost a rate)
