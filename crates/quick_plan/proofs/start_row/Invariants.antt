-- The entries before i stand at the closing period.
-- Assumes nothing.
use Rattle.day.specs.Checked.{day_of}
use Rattle.quick_plan.specs.Loop.{without_line}
use Rattle.quick_plan.proofs.Steps.{Started}
use Rattle.quick_plan.proofs.start_row.Given as goal

abbrev pub invariant-loop-i : goal.invariant-loop-i
invariant-loop-i l = Started (without_line (day_of l.day)) l.initial.holds l.holds l.i
