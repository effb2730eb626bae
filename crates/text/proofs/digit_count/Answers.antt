use Rattle.text.proofs.Digits.{count_short, count_long}
use native.Mathlib.Omega.{arith}
use Rattle.text.proofs.digit_count.Goals as goal

pub loop-m-preserved : goal.loop-m-preserved
loop-m-preserved c = (omega (arith, count_long c.loop-m.m c.loop-m-test.true), omega arith)

pub returns : goal.returns
returns c = omega (arith, count_short c.loop-m.m (omega arith))
