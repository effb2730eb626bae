-- A day that fails the check is refused, then rows of other lengths; then the stretch that is found, or the plan that is made.
-- Assumes nothing.
use Rattle.std.proofs.lemmas.Result.{err_from_is_err_and}
use Rattle.day.specs.Checked.{day_of}
use Rattle.full_plan.proofs.Laws.{bad_day, bad_holds, bad_prices, found_none, open_again, can_plan, found_plan}
use Rattle.full_plan.proofs.full_plan.Goals as goal

pub returns-in_err-day : goal.returns-in_err-day
returns-in_err-day c =
    let p = err_from_is_err_and c.from_residual.result c.from_residual.ensures.1 in
    let no = c.in_err-day.ensures in rw (p.1, p.2, no.0) (bad_day _ _ _ no.1)

pub returns-then-holds-n : goal.returns-then-holds-n
returns-then-holds-n c = rw (← c.in_ok-day.ensures) (bad_holds _ _ _ c.in_ok-day.day.good c.flight_count-n.ensures.0 c.if-holds-n.true)

pub returns-then-prices-priced : goal.returns-then-prices-priced
returns-then-prices-priced c =
    rw (← c.in_ok-day.ensures) (bad_prices _ _ _ c.in_ok-day.day.good c.flight_count-n.ensures.0 c.if-holds-n.false c.counted-priced.ensures c.if-prices-priced.true)

pub returns-in-Some : goal.returns-in-Some
returns-in-Some c =
    rw (← c.in_ok-day.ensures) (found_none _ _ _ c.in_ok-day.day.good c.flight_count-n.ensures.0 c.if-holds-n.false c.counted-priced.ensures c.if-prices-priced.false c.in-Some.ensures)

pub plan_day-requires : goal.plan_day-requires
plan_day-requires c =
    rw (open_again (day_of c.in_ok-day.day) c.open.ensures)
    (can_plan _ _ _ _ _ c.in_ok-day.day.good c.flight_count-n.ensures.0 c.if-holds-n.false c.counted-priced.ensures c.if-prices-priced.false c.in_default.ensures)

pub returns : goal.returns
returns c =
    rw (← c.in_ok-day.ensures) (found_plan _ _ _ _ _ c.in_ok-day.day.good c.flight_count-n.ensures.0 c.if-holds-n.false c.counted-priced.ensures c.if-prices-priced.false c.in_default.ensures (rw (open_again (day_of c.in_ok-day.day) c.open.ensures) at c.plan_day.ensures))
