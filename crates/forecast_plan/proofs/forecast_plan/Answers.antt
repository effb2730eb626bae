-- A valid day's closing number is not above 256: any other one is a line.
-- Assumes nothing.
use Rattle.answers.proofs.Outcomes.{says}
use Rattle.forecast_plan.proofs.Calls.{has_line_lem}
use Rattle.forecast_plan.proofs.forecast_plan.Goals as goal

pub returns-then-day-ne-UNLIMITED : goal.returns-then-day-ne-UNLIMITED
returns-then-day-ne-UNLIMITED c =
    let all = says (rw (← c.in_ok-day.ensures) (has_line_lem _ _ _ c.in_ok-day.day.good c.if-day-ne-UNLIMITED.true)) in record { value = all.0; holds_after = all.1 }
