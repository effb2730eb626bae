-- Assumes nothing.
use mathlib.Core.Path.{◌≡◌}
use Prim.Native.Nat.{◌+◌, ◌-◌}
use native.Mathlib.Omega.{arith}
use Rattle.completion.proofs.Steps.{rest_ready, rest_completes, rest_fails}
use Rattle.completion.proofs.most_completed.Goals as goal

pub rest_has_plan-requires : goal.rest_has_plan-requires
rest_has_plan-requires c = rest_ready c.requires

pub returns-then-rest_has_plan : goal.returns-then-rest_has_plan
returns-then-rest_has_plan c = (omega arith, (rest_completes c.requires c.rest_has_plan.ensures c.if-rest_has_plan.true, λ l. absurd (omega arith)))

pub loop-m-init : goal.loop-m-init
loop-m-init c = record { kept = c.requires; upto = omega arith; over = rest_fails c.requires c.rest_has_plan.ensures c.if-rest_has_plan.false }

pub rest_has_plan-requires-in-loop-m : goal.rest_has_plan-requires-in-loop-m
rest_has_plan-requires-in-loop-m c = rest_ready c.give_back.ensures

pub returns-then-rest_has_plan-2 : goal.returns-then-rest_has_plan-2
returns-then-rest_has_plan-2 c =
    let back : c.loop-m.m - 1 + 1 ≡ c.loop-m.m = omega arith in
    (omega (arith, c.loop-m.invariant.upto), (rest_completes c.give_back.ensures c.rest_has_plan-in-loop-m.ensures c.if-rest_has_plan-2.true, λ l. rw back c.loop-m.invariant.over))

pub loop-m-preserved : goal.loop-m-preserved
loop-m-preserved c = record {
  kept = c.give_back.ensures;
  upto = omega (arith, c.loop-m.invariant.upto);
  over = rest_fails c.give_back.ensures c.rest_has_plan-in-loop-m.ensures c.if-rest_has_plan-2.false;
}
