-- The numbers that `line_at` reads are compared.
-- Assumes nothing.
use mathlib.Core.Path.{refl, sym, ◌∙◌}
use Rattle.plan_reader.proofs.Holds.{hold_no_line, hold_shown, hold_not_shown}
use Rattle.plan_reader.proofs.hold_at.Goals as goal

pub returns-in_err-cost : goal.returns-in_err-cost
returns-in_err-cost c = rw c.from_residual.ensures (hold_no_line _ _ _ _ (sym c.line_at.ensures.value ∙ c.in_err-cost.was))

pub returns-then-shows_flight : goal.returns-then-shows_flight
returns-then-shows_flight c =
    hold_shown _ _ _ _ _ _ _ _ refl c.line_at.ensures.numbers_after (sym c.line_at.ensures.value ∙ c.in_ok-cost.was) (c.shows_flight.ensures.yes c.if-shows_flight.true)

pub returns : goal.returns
returns c =
    hold_not_shown _ _ _ _ _ _ _ _ refl c.line_at.ensures.numbers_after (sym c.line_at.ensures.value ∙ c.in_ok-cost.was) (c.shows_flight.ensures.no c.if-shows_flight.false)
