-- What the definitions say: the growing plan is a cheapest plan in millionths where there is one, without growth it is the quick plan, and no total is above
-- 4,999,680,000,000,000.
-- Assumes nothing.
use Rattle.std.proofs.Common.{Ok}
use mathlib.Core.Path.{◌≡◌}
use mathlib.Core.Bool.{true}
use mathlib.Core.List.{List}
use mathlib.Core.Logic.{◌↔◌}
use Prim.Native.Nat.{ℕ, ◌+◌, ◌*◌, ◌≤◌, ◌<◌}
use borrow.Author.Tests.{le-leb}
use Rattle.answers.specs.Answers.{outcome}
use Rattle.day.specs.Day.{Day, P, N, valid, total}
use Rattle.day.specs.Plan.{HasPlan, Picked, first_jump_or_limit}
use Rattle.growth.specs.Growth.{growth_fits}
use Rattle.quick_plan.specs.Quick.{left_over, rates, quick}
use Rattle.quick_plan.specs.Calls.{quick_check, on_quick, short_from, if_room}
use Rattle.quick_plan.proofs.Calls.{same_outcome}
use Rattle.quick_plan.proofs.NextCosts.{growth_within}
use Rattle.quick_plan.proofs.Plan.{quick_length, quick_to}
use Rattle.quick_plan.proofs.Closing.{nine_exactly, nine_picked}
use Rattle.growth_plan.specs.Growing.{growing, growing_quick, growing_total, CheapestGrowing, growth_plan}
use Rattle.growth_plan.proofs.Growing.{growing_legal, growing_least, zero_holds, zero_total}
use Rattle.growth_plan.proofs.Sums.{can_sum, total_low}

module _ (a : ℕ) (d : Day) (v : valid d ≡ true) (plain : first_jump_or_limit d.flights ≡ N d) where
  module _ (within : growth_fits a (P d) ≡ true) where
    pub growing_cheapest : HasPlan d → CheapestGrowing a d (growing_quick a d)
    growing_cheapest some = record { legal = growing_legal a d v plain some; least = growing_least a d v plain within }

    pub growing_most : growing_total a d.flights (growing_quick a d) ≤ 4999680000000000
    growing_most =
        let w = growth_within a (P d) within in
        total_low a d.flights (growing_quick a d)
        (can_sum a d (growing_quick a d) w.0 w.1 v (quick_length d (growing a d) v) (quick_to d (growing a d) v))

  -- 9 "when more flights are left than c" (#108): exactly if no legal plan exists, and then with the picked stretch, as the quick plan
  pub growing_nine : (d.closing < left_over d (growing a d)) ↔ (HasPlan d → ⊥)
  growing_nine = nine_exactly d v plain (growing a d)

  pub growing_nine_picked : d.closing < left_over d (growing a d) → Picked d (short_from d (P d + 1)) (P d + 1)
  growing_nine_picked = nine_picked d v plain (growing a d)

-- At a = 0, on a day of at most 6 periods, the call is the quick plan's with a million times its total.
pub zero_is_quick : (d : Day) (holds : List ℕ) → P d ≤ 6
    → growth_plan 0 d holds ≡ on_quick (quick_check d holds) holds (if_room d (rates d) holds (outcome (Ok (total d (quick d) * 1000000)) (quick d)))
unfolding growth_plan growth_fits left_over
zero_is_quick d holds short =
    rw (le-leb (P d) 6 short) (same_outcome d holds _ (if_room d (rates d) holds (outcome (Ok (total d (quick d) * 1000000)) (quick d))) (λ can.
    rw (zero_holds d short, zero_total d short can.good can.plain (quick d) (quick_to d (rates d) can.good))))
