-- The text fits or not.
-- Assumes nothing.
use Prim.Native.Nat.{◌≤◌, ◌+◌}
use native.Mathlib.Omega.{arith}
use lib.ListN.{length}
use Rattle.text.proofs.Writing.{lent, it_fits}
use Rattle.plan_text.specs.PlanText.{plan_text}
use Rattle.plan_text.proofs.Placing.{length_plan}
use Rattle.plan_text.proofs.write_legal.Goals as goal

pub slice_bounds-fill_plan-count : goal.slice_bounds-fill_plan-count
slice_bounds-fill_plan-count c = omega (arith, length_plan _ _ c.requires.0 c.requires.1, c.plan_len-needed.ensures)

pub slice_bounds-fill_plan-start : goal.slice_bounds-fill_plan-start
slice_bounds-fill_plan-start c = omega (arith, length_plan _ _ c.requires.0 c.requires.1, c.plan_len-needed.ensures)

pub returns : goal.returns
returns c =
    let a = c.args in
    let t = plan_text a.flights.now a.holds.now in
    let g : a.place + length t ≤ length a.buffer.now = omega (arith, length_plan _ _ c.requires.0 c.requires.1, c.plan_len-needed.ensures) in
    let all = it_fits a.buffer.now t a.place g (lent a.buffer.now t a.place _ _ g c.fill_plan.ensures) in
    record { value = rw c.plan_len-needed.ensures all.0; buffer_after = all.1 }
