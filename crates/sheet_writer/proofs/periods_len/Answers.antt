use Rattle.sheet_writer.proofs.Placing.{period_part, no_periods}
use native.Mathlib.Omega.{arith}
use mathlib.Core.Path.{refl}
use lib.ListN.{length-append}
use Rattle.sheet_writer.proofs.periods_len.Goals as goal

pub loop-i-init : goal.loop-i-init
loop-i-init c = (rw no_periods refl, omega arith)

pub loop-i-preserved : goal.loop-i-preserved
loop-i-preserved c =
    let l = c.loop-i in
    let e = c.period_len-sum.ensures in
    (rw ((period_part c.args.capacities.now l.i (omega arith)).0, length-append) (omega (arith, e.0)), omega (arith, e.1))
