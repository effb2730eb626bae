-- One law for each way through a line.
-- Assumes nothing.
use mathlib.Core.Path.{◌≡◌}
use Rattle.day.specs.Checked.{day_of}
use Rattle.day.specs.Day.{N}
use Rattle.plan_reader.specs.Loop.{Read}
use Rattle.plan_reader.proofs.read_lines.Given as goal

abbrev pub invariant-loop-i : goal.invariant-loop-i
invariant-loop-i l = Read (day_of l.day) l.text l.holds l.left l.i l.at × (l.n ≡ N (day_of l.day))
