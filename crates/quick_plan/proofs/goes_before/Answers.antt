-- Each of the three ways is the order with the tests before it decided.
-- Assumes nothing.
use mathlib.Core.Path.{sym}
use Rattle.quick_plan.proofs.Steps.{before_costs, before_dues, before_places}
use Rattle.quick_plan.proofs.goes_before.Goals as goal

pub returns-then-one-other : goal.returns-then-one-other
returns-then-one-other c = before_costs _ _ _ _ _ (λ e. c.if-one-other.true (sym e))

pub returns-then-one_due-other_due : goal.returns-then-one_due-other_due
returns-then-one_due-other_due c = before_dues _ _ _ _ _ c.due_of-other_due.ensures.0 c.due_of-one_due.ensures.0 (sym c.if-one-other.false) c.if-one_due-other_due.true

pub returns : goal.returns
returns c = before_places _ _ _ _ _ c.due_of-other_due.ensures.0 c.due_of-one_due.ensures.0 (sym c.if-one-other.false) c.if-one_due-other_due.false
