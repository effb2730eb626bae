-- The first i lines are written.
use Rattle.text.specs.Loops.{Grown}
use Rattle.day.specs.Flights.{first_flights}
use Rattle.sheet.specs.Text.{flights_text}
use Rattle.sheet_writer.proofs.put_flights.Given as goal

abbrev pub invariant-loop-i : goal.invariant-loop-i
invariant-loop-i l = Grown l.initial.out l.start (flights_text (first_flights l.i l.flights)) l.out l.at
