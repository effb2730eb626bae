-- The parts of the check make up the definition. What the day check hands on is the day that was lent.
-- Assumes nothing.
use mathlib.Core.Path.{◌∙◌}
use Rattle.price_check.proofs.Laws.{no_plan_lem, plan_legal, by_best}
use Rattle.price_check.proofs.price_check.Goals as goal

pub returns-then-is_err-clause-exact : goal.returns-then-is_err-clause-exact
returns-then-is_err-clause-exact c = rw (← c.in-Ok.ensures) (no_plan_lem c.check_holds.ensures c.if-is_err.ensures.value)

pub are_unsold-requires : goal.are_unsold-requires
are_unsold-requires c = (plan_legal c.check_holds.ensures c.if-is_err.ensures.value).each

pub are_best-requires : goal.are_best-requires
are_best-requires c = plan_legal c.check_holds.ensures c.if-is_err.ensures.value

pub returns : goal.returns
returns c =
    let legal = plan_legal c.check_holds.ensures c.if-is_err.ensures.value in
    let all = by_best c.in-Ok.day.good legal (c.if-prices-counted.false ∙ c.counted.ensures) (c.are_unsold.ensures.yes c.if-not-are_unsold.false) c.are_best.ensures in
    rw (← c.in-Ok.ensures) (record { exact = all.0; cheapest = all.1 })
