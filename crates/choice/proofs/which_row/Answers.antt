-- The choice at what is found of the two rows.
-- Assumes nothing.
use borrow.Author.Tests.{le-leb, lt-leb}
use Rattle.choice.specs.Choice.{choice}
use Rattle.choice.proofs.which_row.Goals as goal

pub returns-in-Ok-Ok : goal.returns-in-Ok-Ok
unfolding choice
returns-in-Ok-Ok c = rw (← c.check_plan-one.ensures, ← c.check_plan-other.ensures, c.in-Ok-Ok.is-0, c.in-Ok-Ok.is-1, lt-leb _ _ c.if-second_total-first_total.true)

pub returns-in-Ok-default : goal.returns-in-Ok-default
unfolding choice
returns-in-Ok-default c = rw (← c.check_plan-one.ensures, ← c.check_plan-other.ensures, c.in-Ok-Ok.is-0, c.in-Ok-Ok.is-1, le-leb _ _ c.if-second_total-first_total.false)

pub returns-in-Ok-default-2 : goal.returns-in-Ok-default-2
unfolding choice
returns-in-Ok-default-2 c = rw (← c.check_plan-one.ensures, ← c.check_plan-other.ensures, c.in-Ok-default.is-0, c.in-Ok-default.is-1)

pub returns-in-Err-Ok : goal.returns-in-Err-Ok
unfolding choice
returns-in-Err-Ok c = rw (← c.check_plan-one.ensures, ← c.check_plan-other.ensures, c.in-Err-Ok.is-0, c.in-Err-Ok.is-1)

pub returns-in-Err-Err : goal.returns-in-Err-Err
unfolding choice
returns-in-Err-Err c = rw (← c.check_plan-one.ensures, ← c.check_plan-other.ensures, c.in-Err-Err.is-0, c.in-Err-Err.is-1)
