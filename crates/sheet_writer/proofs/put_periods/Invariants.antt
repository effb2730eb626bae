-- The first lines are written.
use Rattle.text.specs.Loops.{Grown}
use Rattle.sheet.specs.Text.{periods_text}
use lib.ListN.{take}
use Rattle.sheet_writer.proofs.put_periods.Given as goal

abbrev pub invariant-loop-i : goal.invariant-loop-i
invariant-loop-i l = Grown l.initial.out l.start (periods_text 1 (take l.i l.capacities)) l.out l.at
