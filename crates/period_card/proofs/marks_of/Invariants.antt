-- The words mark who waits among the flights before i.
-- Assumes nothing.
use Rattle.day.specs.Checked.{day_of}
use Rattle.quick_plan.specs.Loop.{without_line}
use Rattle.period_card.proofs.Steps.{Marked}
use Rattle.period_card.proofs.marks_of.Given as goal

abbrev pub invariant-loop-i : goal.invariant-loop-i
invariant-loop-i l = Marked (without_line (day_of l.day)) l.holds l.j l.i l.low l.high
