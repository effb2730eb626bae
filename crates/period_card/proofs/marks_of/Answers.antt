use native.Mathlib.Omega.{arith}
use Rattle.day.proofs.Flights.{there}
use Rattle.day.proofs.Valid.{valid_means}
use Rattle.quick_plan.proofs.Same.{valid_rows}
use Rattle.period_card.proofs.Steps.{marked_start, marked_there, marked_small, marked_low, marked_high, marked_skip, marked_end}
use Rattle.period_card.proofs.marks_of.Goals as goal
use Rattle.period_card.proofs.marks_of.Goals.{then-is_waiting+then-i-lt64, then-is_waiting+else-i-lt64, else-is_waiting}

pub loop-i-init : goal.loop-i-init
loop-i-init c = marked_start (valid_rows _ c.args.day.good) c.requires

pub is_waiting-requires : goal.is_waiting-requires
is_waiting-requires c = (there _ _ (marked_there c.loop-i.invariant c.loop-i-test.true), c.loop-i-test.true, (valid_means c.args.day.good).periods_to)

pub mark-high-requires : goal.mark-high-requires
mark-high-requires c = omega (arith, marked_small c.loop-i.invariant)

pub loop-i-preserved : goal.loop-i-preserved
loop-i-preserved c =
    elim c.if-is_waiting.branch [
      | then-is_waiting+then-i-lt64 w ↦ rw (w.low-is, w.high-is) (marked_low c.loop-i.invariant c.loop-i-test.true c.is_waiting.ensures w.if-is_waiting.true w.if-i-lt64.true w.mark-low.ensures)
      | then-is_waiting+else-i-lt64 w ↦ rw (w.low-is, w.high-is) (marked_high c.loop-i.invariant c.loop-i-test.true c.is_waiting.ensures w.if-is_waiting.true w.if-i-lt64.false w.mark-high.ensures)
      | else-is_waiting w ↦ rw (w.low-is, w.high-is) (marked_skip c.loop-i.invariant c.loop-i-test.true c.is_waiting.ensures w.if-is_waiting.false)
    ]

pub returns : goal.returns
returns c = marked_end c.loop-i.invariant c.loop-i-test.false
