-- The refusals in their order, and the reading.
-- Assumes nothing.
use mathlib.Core.Path.{refl, ◌∙◌}
use Rattle.std.proofs.lemmas.Result.{err_from_is_err_and}
use Rattle.plan_reader.proofs.Calls.{call_bad_day, call_bad_length, call_read}
use Rattle.plan_reader.proofs.read_plan.Goals as goal

pub returns-in_err-day : goal.returns-in_err-day
returns-in_err-day c =
    let p = err_from_is_err_and c.from_residual.result c.from_residual.ensures.1 in
    let no = c.in_err-day.ensures in rw (p.1, p.2, no.0) (call_bad_day _ _ _ no.1)

pub returns-then-holds-n : goal.returns-then-holds-n
returns-then-holds-n c = rw (← c.in_ok-day.ensures) (call_bad_length _ _ _ c.in_ok-day.day.good c.flight_count-n.ensures.0 c.if-holds-n.true)

pub read_in-requires : goal.read_in-requires
read_in-requires c =
    record {
      good = c.in_ok-day.day.good;
      each = c.if-holds-n.false ∙ c.flight_count-n.ensures.0;
      row_long = refl;
      left_long = refl;
    }

pub returns : goal.returns
returns c =
    rw (← c.in_ok-day.ensures) (call_read _ _ _ c.in_ok-day.day.good c.flight_count-n.ensures.0 c.if-holds-n.false c.read_in.ensures)
