-- The whole reading is the reading of what is left, after the flights read so far.
use Rattle.sheet_reader.specs.Loop.{FlightsRead}
use Rattle.sheet_reader.proofs.read_flights.Given as goal

abbrev pub invariant-loop-n : goal.invariant-loop-n
invariant-loop-n l = FlightsRead l.s l.start l.p l.row l.n l.at
