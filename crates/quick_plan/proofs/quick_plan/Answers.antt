-- A refusal is the check's; a short stretch shows that more flights are left than the closing period takes; else the row made for all periods
-- is the quick plan.
-- Assumes nothing.
use Rattle.std.proofs.lemmas.Result.{err_from_is_err_and}
use mathlib.Core.Path.{sym, ◌∙◌}
use native.Mathlib.Omega.{arith}
use Rattle.answers.proofs.Outcomes.{says}
use Rattle.day.specs.Checked.{day_of}
use Rattle.quick_plan.specs.declared.NextCost.TheVariants.{Rate}
use Rattle.quick_plan.specs.NextCost.{next_cost}
use Rattle.quick_plan.proofs.NextCosts.{rate_fits}
use Rattle.quick_plan.proofs.Calls.{can_fill, same_count, same_periods, made_open, refused, no_plan_lem, planned}
use Rattle.legality.proofs.Laws.{can_sum}
use Rattle.quick_plan.proofs.quick_plan.Goals as goal

pub returns-in_err-day : goal.returns-in_err-day
returns-in_err-day c =
    let p = err_from_is_err_and c.from_residual.result c.from_residual.ensures.1 in
    let all = says (refused _ _ c.in_err-day.ensures) in record { value = rw (p.1, p.2) all.0; holds_after = all.1 }

pub plan_to-requires : goal.plan_to-requires
plan_to-requires c =
    let d = day_of c.in_ok-day.day in (
      can_fill _ _ c.in_ok-day.ensures.1 c.in_ok-day.ensures.0 ∙ sym (same_count d c.open.ensures),
      rate_fits _,
      omega (arith, same_periods d c.open.ensures),
    )

pub total_of-requires : goal.total_of-requires
total_of-requires c = can_sum _ c.in_ok-day.day.good (c.plan_to.auto.holds ∙ can_fill _ _ c.in_ok-day.ensures.1 c.in_ok-day.ensures.0)

pub returns-in-Some : goal.returns-in-Some
returns-in-Some c = let all = says (no_plan_lem _ _ c.in_ok-day.ensures.1 c.in_ok-day.ensures.0 c.in-Some.ensures) in record { value = all.0; holds_after = all.1 }

pub returns : goal.returns
returns c =
    let made = made_open (day_of c.in_ok-day.day) c.open.ensures (next_cost Rate) _ c.plan_to.ensures in
    let all = says (planned _ _ c.in_ok-day.ensures.1 c.in_ok-day.ensures.0 c.in_default.ensures made c.total_of.ensures) in record { value = all.0; holds_after = all.1 }
