-- A store for each column. Assumes nothing.
use native.Mathlib.Omega.{arith}
use Rattle.day.proofs.Flights.{stored}
use Rattle.day.proofs.put_flight.Goals as goal

pub returns : goal.returns
returns c = let a = c.args in stored a.flights.now a.i a.f (omega arith)
