-- Each way out is one case of the card; the day that passed the check is the day that was lent.
-- Assumes nothing.
use Rattle.std.proofs.Common.{Ok}
use Rattle.std.proofs.lemmas.Result.{err_from_is_err_and}
use Rattle.day.specs.Checked.{day_of}
use Rattle.quick_plan.proofs.Calls.{same_count, same_periods}
use Rattle.period_card.proofs.Steps.{bad_day, jump_or_limit_lem, no_period, card_opened, is_card, part_length}
use mathlib.Core.Path.{sym, ap, ◌∙◌}
use mathlib.Core.Logic.{inl, inr}
use native.Mathlib.Omega.{arith}
use Rattle.period_card.proofs.period_card.Goals as goal

pub returns-in_err-day : goal.returns-in_err-day
returns-in_err-day c =
    let p = err_from_is_err_and c.from_residual.result c.from_residual.ensures.1 in
    let no = c.in_err-day.ensures in rw (p.1, p.2, no.0) (sym (bad_day _ _ no.1))

pub returns-in-Some : goal.returns-in-Some
returns-in-Some c = rw (← c.in_ok-day.ensures) (sym (jump_or_limit_lem _ _ c.in_ok-day.day.good c.first_jump_or_limit.ensures c.in-Some.is))

pub returns-then-j-eq0 : goal.returns-then-j-eq0
returns-then-j-eq0 c =
    rw (← c.in_ok-day.ensures)
    (sym (no_period _ _ c.in_ok-day.day.good c.first_jump_or_limit.ensures c.in_default.is (elim c.then-j-eq0.either [ inl q ↦ inl q | inr w ↦ inr w.1 ])))

pub slice_bounds-row-end : goal.slice_bounds-row-end
slice_bounds-row-end c = c.flight_count.ensures.1

pub slice_bounds-card_in-end : goal.slice_bounds-card_in-end
slice_bounds-card_in-end c = sym (part_length _ _ c.flight_count.ensures.1)

pub card_in-requires : goal.card_in-requires
card_in-requires c =
    let d = day_of c.in_ok-day.day in (
      part_length _ _ c.flight_count.ensures.1 ∙ c.flight_count.ensures.0 ∙ sym (same_count d c.open.ensures),
      omega arith,
      omega (arith, same_periods d c.open.ensures),
    )

pub returns : goal.returns
returns c =
    rw (← c.in_ok-day.ensures)
    (ap Ok (c.card_in.ensures ∙ card_opened (day_of c.in_ok-day.day) c.open.ensures (omega arith)) ∙ sym (is_card _ _ c.in_ok-day.day.good c.first_jump_or_limit.ensures c.in_default.is (omega arith) (omega arith)))
