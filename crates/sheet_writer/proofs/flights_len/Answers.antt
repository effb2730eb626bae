use Rattle.sheet_writer.proofs.Placing.{flight_part, no_flights}
use native.Mathlib.Omega.{arith}
use mathlib.Core.Path.{refl}
use lib.ListN.{length-append}
use Rattle.sheet_writer.proofs.flights_len.Goals as goal

pub loop-i-init : goal.loop-i-init
loop-i-init c = (rw no_flights refl, omega arith)

pub loop-i-preserved : goal.loop-i-preserved
loop-i-preserved c =
    let l = c.loop-i in
    let e = rw c.flight_at.ensures at c.flight_len-sum.ensures in
    (rw (flight_part c.args.flights.now l.i, length-append) (omega (arith, e.0)), omega (arith, e.1))
