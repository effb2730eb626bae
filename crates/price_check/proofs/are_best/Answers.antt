-- Assumes nothing.
use borrow.Author.Count.{below_more}
use native.Mathlib.Omega.{arith}
use Rattle.answers.proofs.Decides.{say_yes, say_no}
use Rattle.price_check.proofs.are_best.Goals as goal

pub loop-i-init : goal.loop-i-init
loop-i-init c = λ j b. absurd (omega arith)

pub returns-then-not-is_best : goal.returns-then-not-is_best
returns-then-not-is_best c = say_no (λ said. c.is_best.ensures.no c.if-not-is_best.true (said c.loop-i.i c.loop-i-test.true))

pub loop-i-preserved : goal.loop-i-preserved
loop-i-preserved c = below_more _ _ c.loop-i.invariant (c.is_best.ensures.yes c.if-not-is_best.false)

pub returns : goal.returns
returns c = say_yes (λ j b. c.loop-i.invariant j (omega arith))
