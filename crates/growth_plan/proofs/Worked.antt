-- Two days worked out by hand in docs/SHEET.md: what the call comes to, whatever the hold row was. Growth turns the order of two flights
-- round, and a tie goes to the flight that is held longest.
-- Assumes nothing.
use Rattle.std.proofs.Common.{Ok}
use mathlib.Core.Path.{◌≡◌, refl}
use mathlib.Core.List.{[], ◌∷◌}
use Prim.Native.Nat.{ℕ}
use Rattle.assignment.specs.Sum.{sum, count}
use Rattle.assignment.specs.Rows.{row}
use Rattle.answers.specs.Answers.{outcome}
use Rattle.day.specs.Day.{Day, day, unlimited, flight_at, flight_count, all, flight_fits, is_new, valid}
use Rattle.day.specs.Plan.{first_of, jump_or_limit, first_jump_or_limit}
use Rattle.growth.specs.Growth.{growth_fits, factor, further_cost, growth_cost}
use Rattle.quick_plan.specs.NextCost.{next_cost}
use Rattle.quick_plan.specs.Quick.{before, ahead_of, going_before, highest, eligible, operates, lands, quick_by, left_over}
use Rattle.quick_plan.specs.Calls.{quick_check}
use Rattle.growth_plan.specs.Growing.{growing_total, growth_plan}

-- period 1 is closed; flight 1 is due there at rate 8, flight 2 in period 2 at the other rate
abbrev pub two_flights : ℕ → Day
two_flights rate = day (0 ∷ 1 ∷ 1 ∷ []) (1 ∷ 1 ∷ 8 ∷ 0 ∷ 0 ∷ 255 ∷ 0 ∷ 2 ∷ 2 ∷ rate ∷ 0 ∷ 0 ∷ 255 ∷ 0 ∷ []) unlimited

module _ (x y : ℕ) where
  -- 9.6 is less than 10: flight 2 lands first, and 8 + 9.6 is paid
  pub still_by_rates : growth_plan 2 (two_flights 10) (x ∷ y ∷ []) ≡ outcome (Ok 17600000) (2 ∷ 0 ∷ [])
  unfolding sum count row flight_at flight_count all flight_fits is_new valid first_of jump_or_limit first_jump_or_limit growth_fits factor further_cost growth_cost next_cost before ahead_of going_before highest eligible operates lands quick_by left_over quick_check growing_total growth_plan
  still_by_rates = refl

  -- 10.4 is more than 10: flight 1 lands first, and 8 + 10 is paid
  pub turned_round : growth_plan 3 (two_flights 10) (x ∷ y ∷ []) ≡ outcome (Ok 18000000) (1 ∷ 1 ∷ [])
  unfolding sum count row flight_at flight_count all flight_fits is_new valid first_of jump_or_limit first_jump_or_limit growth_fits factor further_cost growth_cost next_cost before ahead_of going_before highest eligible operates lands quick_by left_over quick_check growing_total growth_plan
  turned_round = refl

  -- both next costs are 12: flight 1, held longest, lands first, and 8 + 12 is paid
  pub tie_held_longest : growth_plan 5 (two_flights 12) (x ∷ y ∷ []) ≡ outcome (Ok 20000000) (1 ∷ 1 ∷ [])
  unfolding sum count row flight_at flight_count all flight_fits is_new valid first_of jump_or_limit first_jump_or_limit growth_fits factor further_cost growth_cost next_cost before ahead_of going_before highest eligible operates lands quick_by left_over quick_check growing_total growth_plan
  tie_held_longest = refl
