use Rattle.sheet_reader.proofs.Loops.{error_is, flights_start, flights_end, flights_full, flight_form, flight_range, flight_again, flight_next}
use Rattle.std.proofs.lemmas.Result.{err_from_is_err_and}
use native.Mathlib.Omega.{arith}
use mathlib.Core.Path.{◌≡◌, sym, ◌∙◌}
use Prim.Native.Nat.{◌<◌}
use lib.ListN.{length}
use Rattle.day.specs.Day.{most_flights}
use Rattle.sheet_reader.proofs.read_flights.Goals as goal

pub loop-n-init : goal.loop-n-init
loop-n-init c = let a = c.requires in flights_start _ _ _ _ a.0 a.1 a.2

pub returns-then-at-s-clause-by_index : goal.returns-then-at-s-clause-by_index
returns-then-at-s-clause-by_index c = (flights_end c.loop-n.invariant (omega arith)).1.1

pub returns-in_err-line-clause-by_index : goal.returns-in_err-line-clause-by_index
returns-in_err-line-clause-by_index c =
    let p = err_from_is_err_and c.from_residual.result c.from_residual.ensures.1 in
    let e = c.in_err-line.ensures in
    let more : c.loop-n.at < length c.args.s.now = omega (arith, c.loop-n.invariant.inside) in
    rw (p.1, p.2, error_is c.flight_line.result e.ok_part e.value)
    (flight_form c.loop-n.invariant more (omega arith) (sym c.flight_line.ensures ∙ e.ok_part)).1.1

pub returns-then-not-flight_fits-clause-by_index : goal.returns-then-not-flight_fits-clause-by_index
returns-then-not-flight_fits-clause-by_index c =
    let more : c.loop-n.at < length c.args.s.now = omega (arith, c.loop-n.invariant.inside) in
    (flight_range c.loop-n.invariant more (omega arith) (sym c.flight_line.ensures ∙ c.in_ok-line.ensures.ok_part) (sym c.if-not-flight_fits.ensures)).1.1

pub returns-then-number_used-clause-by_index : goal.returns-then-number_used-clause-by_index
returns-then-number_used-clause-by_index c =
    let more : c.loop-n.at < length c.args.s.now = omega (arith, c.loop-n.invariant.inside) in
    (flight_again c.loop-n.invariant more (omega arith) (sym c.flight_line.ensures ∙ c.in_ok-line.ensures.ok_part) (sym c.if-not-flight_fits.ensures) (sym c.if-number_used.ensures)).1.1

pub loop-n-preserved : goal.loop-n-preserved
loop-n-preserved c =
    let more : c.loop-n.at < length c.args.s.now = omega (arith, c.loop-n.invariant.inside) in
    flight_next c.loop-n.invariant more (omega arith) (sym c.flight_line.ensures ∙ c.in_ok-line.ensures.ok_part) (sym c.if-not-flight_fits.ensures) (sym c.if-number_used.ensures) _ c.put_flight.ensures

pub returns-then-at-s-2-clause-by_index : goal.returns-then-at-s-2-clause-by_index
returns-then-at-s-2-clause-by_index c = (flights_full c.loop-n.invariant c.if-at-s-2.true (omega arith)).1.1

pub returns-clause-by_index : goal.returns-clause-by_index
returns-clause-by_index c =
    let n : c.loop-n.n ≡ most_flights = omega arith in
    rw n at (flights_end c.loop-n.invariant c.if-at-s-2.false).1.1
