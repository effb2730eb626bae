-- The lengths of the first i lines are summed.
use Rattle.day.specs.Flights.{first_flights}
use Rattle.sheet.specs.Text.{flights_text}
use Prim.Native.Nat.{◌≤◌, ◌*◌}
use mathlib.Core.Path.{◌≡◌}
use lib.ListN.{length}
use Rattle.sheet_writer.proofs.flights_len.Given as goal

abbrev pub invariant-loop-i : goal.invariant-loop-i
invariant-loop-i l = (l.sum ≡ length (flights_text (first_flights l.i l.flights))) × (l.sum ≤ 147 * l.i)
