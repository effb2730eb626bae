-- The refusals in the order of the definition; the day that passed the check is the day that was lent.
-- Assumes nothing.
use Rattle.std.proofs.lemmas.Result.{err_from_is_err_and}
use Rattle.quick_plan.proofs.Calls.{bad_day, bad_length, jump_or_limit_lem, applies}
use Rattle.quick_plan.proofs.check_quick.Goals as goal

pub returns-in_err-day : goal.returns-in_err-day
returns-in_err-day c =
    let p = err_from_is_err_and c.from_residual.result c.from_residual.ensures.1 in
    let no = c.in_err-day.ensures in rw (p.1, p.2, no.0) (bad_day _ _ no.1)

pub returns-then-holds-needed : goal.returns-then-holds-needed
returns-then-holds-needed c = rw (← c.in_ok-day.ensures) (bad_length _ _ c.in_ok-day.day.good c.flight_count-needed.ensures.0 c.if-holds-needed.true)

pub returns-in-Some : goal.returns-in-Some
returns-in-Some c =
    rw (← c.in_ok-day.ensures) (jump_or_limit_lem _ _ c.in_ok-day.day.good c.flight_count-needed.ensures.0 c.if-holds-needed.false c.first_jump_or_limit.ensures c.in-Some.is)

pub returns-in-None : goal.returns-in-None
returns-in-None c =
    (c.in_ok-day.ensures, rw (← c.in_ok-day.ensures) (applies _ _ c.in_ok-day.day.good c.flight_count-needed.ensures.0 c.if-holds-needed.false c.first_jump_or_limit.ensures c.in-None.is))
