-- None of the flights passed has the number.
use Rattle.day.specs.Flights.{first_flights}
use Rattle.sheet.specs.Lines.{used}
use mathlib.Core.Bool.{false}
use mathlib.Core.Path.{◌≡◌}
use Rattle.sheet_reader.proofs.number_used.Given as goal

abbrev pub invariant-loop-j : goal.invariant-loop-j
invariant-loop-j l = used l.number (first_flights l.j l.row) ≡ false
