use mathlib.Core.Path.{sym}
use native.Mathlib.Omega.{arith}
use Rattle.forecast_plan.proofs.Landing.{room_closing}
use Rattle.forecast_plan.proofs.Air.{adding_lands, adding_fits, adding_low}
use Rattle.forecast_plan.proofs.add_air.Goals as goal

pub loop-j-init : goal.loop-j-init
loop-j-init c = (sym (room_closing _ _ _ (omega arith)), c.requires)

pub overflow_sub-air : goal.overflow_sub-air
overflow_sub-air c = adding_lands c.loop-j.invariant.1 c.lands_at-lands.ensures c.loop-j-test.true

pub overflow_mul-air : goal.overflow_mul-air
overflow_mul-air c = omega (arith, adding_fits c.loop-j.invariant.1 c.lands_at-lands.ensures c.loop-j-test.true)

pub overflow_add-air : goal.overflow_add-air
overflow_add-air c =
    let a = c.loop-j.invariant.1 in
    let e = c.lands_at-lands.ensures in
    let l = c.loop-j-test.true in
    omega (arith, adding_low a e l, adding_fits a e l)
