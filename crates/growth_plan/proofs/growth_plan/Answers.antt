-- A refusal is the check's, or 14, or 9 where a stretch is short; else the row made for all periods is the growing plan.
-- Assumes nothing.
use Rattle.std.proofs.lemmas.Result.{err_from_is_err_and}
use mathlib.Core.Path.{sym, ◌∙◌}
use native.Mathlib.Omega.{arith}
use Rattle.answers.proofs.Outcomes.{says}
use Rattle.day.specs.Checked.{day_of}
use Rattle.quick_plan.specs.declared.NextCost.TheVariants.{Growing}
use Rattle.quick_plan.specs.NextCost.{next_cost}
use Rattle.quick_plan.proofs.Calls.{can_fill, same_count, same_periods, made_open}
use Rattle.growth_plan.proofs.Calls.{refused, bad_growth, can_make, no_plan_lem, can_add, planned}
use Rattle.growth_plan.proofs.growth_plan.Goals as goal

pub returns-in_err-day : goal.returns-in_err-day
returns-in_err-day c =
    let p = err_from_is_err_and c.from_residual.result c.from_residual.ensures.1 in
    let all = says (refused _ _ _ c.in_err-day.ensures) in record { value = rw (p.1, p.2) all.0; holds_after = all.1 }

pub returns-then-not-growth_fits : goal.returns-then-not-growth_fits
returns-then-not-growth_fits c =
    let d = c.in_ok-day.ensures in
    let all = says (bad_growth _ _ _ d.1 d.0 c.growth_fits.ensures c.if-not-growth_fits.true) in record { value = all.0; holds_after = all.1 }

pub plan_to-requires : goal.plan_to-requires
plan_to-requires c =
    let d = c.in_ok-day.ensures in
    let checked = day_of c.in_ok-day.day in
    let periods = same_periods checked c.open.ensures in (
      can_fill _ _ d.1 d.0 ∙ sym (same_count checked c.open.ensures),
      rw periods (can_make _ _ _ d.1 d.0 c.growth_fits.ensures c.if-not-growth_fits.false),
      omega (arith, periods),
    )

pub total_in_millionths-requires : goal.total_in_millionths-requires
total_in_millionths-requires c =
    let d = c.in_ok-day.ensures in
    let made = made_open (day_of c.in_ok-day.day) c.open.ensures (next_cost (Growing c.args.growth)) _ c.plan_to.ensures in
    can_add _ _ _ d.1 d.0 c.growth_fits.ensures c.if-not-growth_fits.false made

pub returns-in-Some : goal.returns-in-Some
returns-in-Some c =
    let d = c.in_ok-day.ensures in
    let all = says (no_plan_lem _ _ _ d.1 d.0 c.growth_fits.ensures c.if-not-growth_fits.false c.in-Some.ensures) in record { value = all.0; holds_after = all.1 }

pub returns : goal.returns
returns c =
    let d = c.in_ok-day.ensures in
    let made = made_open (day_of c.in_ok-day.day) c.open.ensures (next_cost (Growing c.args.growth)) _ c.plan_to.ensures in
    let all = says (planned _ _ _ d.1 d.0 c.growth_fits.ensures c.if-not-growth_fits.false made c.in_default.ensures c.total_in_millionths.ensures) in record { value = all.0; holds_after = all.1 }
