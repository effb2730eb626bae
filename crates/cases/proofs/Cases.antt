-- Cases A to K of document 01 and the days of #102, #103 and #108: every row of their table is correct, worked out by its tests.
-- Assumes nothing.
use mathlib.Core.Path.{refl}
use mathlib.Core.List.{List, [], ◌∷◌}
use Prim.Native.Nat.{ℕ}
use native.Mathlib.Omega.{arith}
use Rattle.assignment.specs.Sum.{sum, count}
use Rattle.assignment.specs.Rows.{row}
use Rattle.day.specs.Day.{takes_of, counted_of, flight_at, flight_count, hold_cost, latest_of, last_of, total_of, all, flight_fits, is_new, valid}
use Rattle.day.specs.Plan.{must_land, room, too_long_of, over_capacity, breaks, first_of, first_break}
use Rattle.quick_plan.specs.NextCost.{next_cost}
use Rattle.quick_plan.specs.Quick.{before, ahead_of}
use Rattle.quick_plan.specs.Loop.{pick, best_to, waiting, top, land_all, row_to}
use Rattle.cases.specs.Cases.{day_a, day_b, day_d, day_e, day_f, day_g, day_h, day_i, day_j, day_k, day_late, day_lates, day_most, day_far, with_line, holds_j, holds_k, Correct, table}
use Rattle.cases.proofs.Check.{accepts, gets_yes, cheaper_at, gets_no, priced_at, gets_no_unsold, least_total_lem, saves_all, smallest_prices_lem, picks, no_plan_lem, land_in, one_of, quick_holds_lem, two_land_lem}

-- one row, and those below it
infixr 5 ◌and◌
◌and◌ : {A B : Type 0} → A → B → A × B
a and b = (a, b)

-- plans of J and K with one more landing in period 1, 2, .. 7; where that saves nothing, the plan as it is
abbrev plans_j : List (List ℕ)
plans_j =
    holds_j
    ∷ holds_j
    ∷ (0 ∷ 1 ∷ 0 ∷ 0 ∷ 0 ∷ 1 ∷ 0 ∷ 0 ∷ 0 ∷ 3 ∷ [])
    ∷ (0 ∷ 1 ∷ 0 ∷ 0 ∷ 0 ∷ 1 ∷ 1 ∷ 0 ∷ 0 ∷ 3 ∷ [])
    ∷ (0 ∷ 0 ∷ 0 ∷ 0 ∷ 0 ∷ 1 ∷ 3 ∷ 0 ∷ 0 ∷ 3 ∷ [])
    ∷ (0 ∷ 1 ∷ 0 ∷ 0 ∷ 0 ∷ 1 ∷ 3 ∷ 0 ∷ 0 ∷ 3 ∷ [])
    ∷ holds_j
    ∷ []

abbrev plans_k : List (List ℕ)
plans_k =
    holds_k
    ∷ holds_k
    ∷ (0 ∷ 1 ∷ 0 ∷ 0 ∷ 0 ∷ 2 ∷ 0 ∷ 0 ∷ 0 ∷ 2 ∷ [])
    ∷ (0 ∷ 1 ∷ 0 ∷ 0 ∷ 0 ∷ 2 ∷ 1 ∷ 0 ∷ 0 ∷ 2 ∷ [])
    ∷ (0 ∷ 1 ∷ 0 ∷ 0 ∷ 0 ∷ 2 ∷ 2 ∷ 0 ∷ 0 ∷ 2 ∷ [])
    ∷ (0 ∷ 1 ∷ 0 ∷ 0 ∷ 0 ∷ 2 ∷ 2 ∷ 1 ∷ 0 ∷ 2 ∷ [])
    ∷ holds_k
    ∷ []

pub cases : Correct table
unfolding day_a day_b day_d day_e day_f day_g day_h day_i day_j day_k day_late day_lates day_most day_far sum count takes_of counted_of flight_at flight_count hold_cost latest_of last_of total_of all flight_fits is_new valid must_land room too_long_of over_capacity breaks first_of first_break next_cost before ahead_of row pick best_to waiting top land_all row_to accepts cheaper_at priced_at saves_all picks land_in one_of
cases =
    -- A
    (refl, least_total_lem _ _ _ refl refl refl)
    -- B
    and (refl, least_total_lem _ _ _ refl refl refl)
    -- C: the flight at place 1 could land in period 1 for less
    and (refl, gets_yes _ _ _ refl refl)
    and (refl, gets_no day_b _ _ 1 1 refl)
    -- D
    and (refl, no_plan_lem _ _ _ refl refl)
    -- E
    and (refl, least_total_lem _ _ _ refl refl refl)
    -- F
    and (refl, least_total_lem _ _ _ refl refl refl)
    -- G
    and (refl, no_plan_lem _ _ _ refl refl)
    -- H
    and (refl, refl)
    and (refl, refl)
    -- I
    and (refl, least_total_lem _ _ _ refl refl refl)
    -- J
    and (refl, least_total_lem _ _ _ refl refl refl)
    and (refl, quick_holds_lem day_j _ refl refl)
    and (refl, two_land_lem day_j holds_j refl refl 5 (omega arith) refl)
    -- K
    and (refl, least_total_lem _ _ _ refl refl refl)
    -- #102
    and (refl, refl)
    and (refl, least_total_lem _ _ _ refl refl refl)
    and (refl, least_total_lem _ _ _ refl refl refl)
    and (refl, least_total_lem _ _ _ refl refl refl)
    -- #103
    and (refl, smallest_prices_lem _ _ _ ((0 ∷ 0 ∷ 0 ∷ []) ∷ (0 ∷ 1 ∷ 0 ∷ []) ∷ []) refl refl refl)
    and (refl, smallest_prices_lem _ _ _ ((0 ∷ []) ∷ []) refl refl refl)
    and (refl, smallest_prices_lem _ _ _ ((0 ∷ 0 ∷ []) ∷ (1 ∷ 0 ∷ []) ∷ []) refl refl refl)
    and (refl, smallest_prices_lem _ _ _ plans_j refl refl refl)
    and (refl, smallest_prices_lem _ _ _ plans_k refl refl refl)
    and (refl, smallest_prices_lem _ _ _ ((0 ∷ []) ∷ []) refl refl refl)
    -- #108: with one more landing in period 1 the flight of F lands when due, with one more in the closing period as before
    and (refl, least_total_lem _ _ _ refl refl refl)
    and (refl, smallest_prices_lem _ _ _ ((0 ∷ []) ∷ (1 ∷ []) ∷ []) refl refl refl)
    and (refl, smallest_prices_lem _ _ _ ((0 ∷ []) ∷ (1 ∷ []) ∷ []) refl refl refl)
    -- #108: for 3, 1 it could land in period 1 for less; with room for two the closing period isn't full
    and (refl, gets_yes _ _ _ refl refl)
    and (refl, gets_no (with_line 1 day_f) _ _ 0 1 refl)
    and (refl, gets_no_unsold (with_line 2 day_f) _ _ 2 refl)
    -- #108: the stretches
    and (refl, no_plan_lem _ _ _ refl refl)
    and (refl, no_plan_lem _ _ _ refl refl)
    and (refl, no_plan_lem _ _ _ refl refl)
    and tt
