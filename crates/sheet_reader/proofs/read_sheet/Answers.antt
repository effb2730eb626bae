-- The definition's tests in their order.
use Rattle.std.proofs.lemmas.Result.{err_from_is_err_and}
use Rattle.sheet_reader.proofs.Loops.{call_caps, call_flights, call_long, call_top, call_on, top_within, refused_so}
use Rattle.sheet.specs.Text.{period_names}
use mathlib.Core.Path.{refl, sym, ◌∙◌}
use Rattle.sheet_reader.proofs.read_sheet.Goals as goal

pub returns-then-capacities-ne-PERIODS : goal.returns-then-capacities-ne-PERIODS
returns-then-capacities-ne-PERIODS c = let all = refused_so (call_caps _ _ _ c.if-capacities-ne-PERIODS.true) in record { value = all.0; capacities_after = all.1.0; flights_after = all.1.1 }

pub returns-then-flights-ne-FLIGHT_ROW : goal.returns-then-flights-ne-FLIGHT_ROW
returns-then-flights-ne-FLIGHT_ROW c = let all = refused_so (call_flights _ _ _ c.if-capacities-ne-PERIODS.false c.if-flights-ne-FLIGHT_ROW.true) in record { value = all.0; capacities_after = all.1.0; flights_after = all.1.1 }

pub returns-then-sheet-gt8192 : goal.returns-then-sheet-gt8192
returns-then-sheet-gt8192 c = let all = refused_so (call_long _ _ _ c.if-capacities-ne-PERIODS.false c.if-flights-ne-FLIGHT_ROW.false c.if-sheet-gt8192.true) in record { value = all.0; capacities_after = all.1.0; flights_after = all.1.1 }

pub returns-then-not-fixed_at : goal.returns-then-not-fixed_at
unfolding period_names
returns-then-not-fixed_at c =
    let all = refused_so (call_top _ _ _ c.if-capacities-ne-PERIODS.false c.if-flights-ne-FLIGHT_ROW.false c.if-sheet-gt8192.false (sym c.if-not-fixed_at.ensures)) in
    record { value = all.0; capacities_after = all.1.0; flights_after = all.1.1 }

pub read_periods-requires : goal.read_periods-requires
unfolding period_names
read_periods-requires c = (top_within _ (sym c.if-not-fixed_at.ensures), refl)

pub returns-in_err-count : goal.returns-in_err-count
unfolding period_names
returns-in_err-count c =
    let p = err_from_is_err_and c.from_residual.result c.from_residual.ensures.1 in
    let on = call_on _ _ _ c.if-capacities-ne-PERIODS.false c.if-flights-ne-FLIGHT_ROW.false c.if-sheet-gt8192.false (sym c.if-not-fixed_at.ensures) in
    let all = refused_so (on ∙ c.in_err-count.ensures.rest_read) in
    record { value = rw (p.1, p.2) all.0; capacities_after = all.1.0; flights_after = all.1.1 }

pub returns : goal.returns
unfolding period_names
returns c =
    let on = call_on _ _ _ c.if-capacities-ne-PERIODS.false c.if-flights-ne-FLIGHT_ROW.false c.if-sheet-gt8192.false (sym c.if-not-fixed_at.ensures) in
    rw (on ∙ c.in_ok-count.ensures.rest_read) c.read_rest.ensures
