use Rattle.plan_text.proofs.Placing.{lines_part, no_lines}
use native.Mathlib.Omega.{arith}
use mathlib.Core.Path.{◌≡◌, refl}
use lib.ListN.{length, length-append}
use Rattle.plan_text.proofs.plan_lines_len.Goals as goal

pub loop-i-init : goal.loop-i-init
loop-i-init c =
    let a = c.args in
    let f = a.flights.now in
    let h = a.holds.now in
    (rw (no_lines f h) refl, omega arith)

pub plan_line_len-sum-requires : goal.plan_line_len-sum-requires
plan_line_len-sum-requires c = (omega (arith, c.loop-i-test.true), omega (arith, c.requires.0, c.loop-i-test.true))

pub overflow_add-sum : goal.overflow_add-sum
overflow_add-sum c = omega (arith, c.plan_line_len-sum.ensures.1)

pub loop-i-preserved : goal.loop-i-preserved
loop-i-preserved c =
    let a = c.args in
    let f = a.flights.now in
    let h = a.holds.now in
    let l = c.loop-i in
    (rw (lines_part f h l.i, length-append) (omega (arith, c.plan_line_len-sum.ensures.0)), omega (arith, c.plan_line_len-sum.ensures.1))

pub returns : goal.returns
returns c =
    let a = c.args in
    let f = a.flights.now in
    let h = a.holds.now in
    let l = c.loop-i in
    let e : l.i ≡ length h = omega arith in
    (rw e at l.invariant.0, omega (arith, c.requires.1))
