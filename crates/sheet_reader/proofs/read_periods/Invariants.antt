-- The whole reading is the reading of what is left, after the capacities read so far.
use Rattle.sheet_reader.specs.Loop.{PeriodsRead}
use Rattle.sheet_reader.proofs.read_periods.Given as goal

abbrev pub invariant-loop-n : goal.invariant-loop-n
invariant-loop-n l = PeriodsRead l.s l.caps l.n l.at
