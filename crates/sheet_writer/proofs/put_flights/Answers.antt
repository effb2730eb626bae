use Rattle.text.proofs.Writing.{grown_none, grown_room, grown_more}
use Rattle.sheet_writer.proofs.Placing.{flight_part, flight_room, no_flights}
use Rattle.day.specs.Day.{flight_at}
use Rattle.sheet.specs.Text.{flight_text}
use native.Mathlib.Omega.{arith}
use Rattle.sheet_writer.proofs.put_flights.Goals as goal

pub loop-i-init : goal.loop-i-init
loop-i-init c = rw no_flights (grown_none _ _ (omega (arith, c.requires)))

pub put_flight_at-at-requires : goal.put_flight_at-at-requires
put_flight_at-at-requires c =
    let l = c.loop-i in
    rw c.flight_at.ensures (grown_room l.invariant (flight_text (flight_at c.args.flights.now l.i)) (omega (arith, flight_room c.args.flights.now l.i c.args.n c.loop-i-test.true, c.requires.0)))

pub loop-i-preserved : goal.loop-i-preserved
loop-i-preserved c =
    let l = c.loop-i in
    let r = flight_room c.args.flights.now l.i c.args.n c.loop-i-test.true in
    let e = rw c.flight_at.ensures at c.put_flight_at-at.ensures in
    rw (flight_part c.args.flights.now l.i) (grown_more l.invariant (omega (arith, c.requires.0)) e)
