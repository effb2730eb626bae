-- Four texts, one behind the other.
-- Assumes nothing.
use native.Mathlib.Omega.{arith}
use Rattle.text.specs.Digits.{line, separated}
use Rattle.plan_text.specs.PlanText.{plan_names, total_name}
use Rattle.plan_text.proofs.Placing.{length_plan, plan_put}
use Rattle.plan_text.proofs.fill_plan.Goals as goal

pub put_fixed-lines_at-requires : goal.put_fixed-lines_at-requires
put_fixed-lines_at-requires c = omega (arith, length_plan _ _ c.requires.0 c.requires.1, c.requires.3)

pub put_plan_lines-total_name_at-requires : goal.put_plan_lines-total_name_at-requires
unfolding plan_names
put_plan_lines-total_name_at-requires c =
    (c.requires.2, omega (arith, length_plan _ _ c.requires.0 c.requires.1, c.requires.3, c.put_fixed-lines_at.ensures.place, c.put_fixed-lines_at.auto))

pub put_fixed_at-total_at-requires : goal.put_fixed_at-total_at-requires
put_fixed_at-total_at-requires c =
    omega (arith, length_plan _ _ c.requires.0 c.requires.1, c.requires.3, c.put_fixed-lines_at.ensures.place, c.put_fixed-lines_at.auto, c.put_plan_lines-total_name_at.ensures.place, c.put_plan_lines-total_name_at.auto)

pub put_line_at-requires : goal.put_line_at-requires
unfolding line separated
put_line_at-requires c =
    omega (arith, length_plan _ _ c.requires.0 c.requires.1, c.requires.3, c.put_fixed-lines_at.ensures.place, c.put_fixed-lines_at.auto, c.put_plan_lines-total_name_at.ensures.place, c.put_plan_lines-total_name_at.auto, c.put_fixed_at-total_at.ensures.place, c.put_fixed_at-total_at.auto)

pub returns : goal.returns
unfolding plan_names total_name line separated
returns c =
    plan_put c.args.flights.now c.args.holds.now c.requires.0 c.requires.1 c.requires.3 c.put_fixed-lines_at.ensures c.put_plan_lines-total_name_at.ensures c.put_fixed_at-total_at.ensures c.put_line_at.ensures
