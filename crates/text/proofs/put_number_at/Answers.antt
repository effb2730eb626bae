use native.Mathlib.Omega.{arith}
use mathlib.Core.Path.{refl}
use Rattle.text.proofs.Digits.{length_ended}
use Rattle.text.proofs.Writing.{back_start, back_step, back_end}
use Rattle.text.proofs.put_number_at.Goals as goal

pub overflow_add-end : goal.overflow_add-end
overflow_add-end c = omega (arith, c.digit_count.ensures, length_ended c.args.e c.args.n, c.requires)

pub loop-i-init : goal.loop-i-init
loop-i-init c = back_start _ _ _ _ (omega (arith, c.digit_count.ensures)) (omega (arith, c.digit_count.ensures, length_ended c.args.e c.args.n, c.requires))

pub loop-i-preserved : goal.loop-i-preserved
loop-i-preserved c = back_step c.loop-i.invariant _ c.loop-i-test.true refl

pub returns : goal.returns
returns c = back_end c.loop-i.invariant (omega (arith, c.loop-i.invariant.from)) _
