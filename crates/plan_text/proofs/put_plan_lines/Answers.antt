use Rattle.text.proofs.Writing.{then, put_none, put_length}
use Rattle.plan_text.proofs.Placing.{lines_part, lines_room, no_lines}
use Prim.Native.Nat.{◌<◌}
use native.Mathlib.Omega.{arith}
use mathlib.Core.Path.{◌≡◌, refl}
use lib.ListN.{length, length-append}
use Rattle.plan_text.proofs.put_plan_lines.Goals as goal

pub loop-i-init : goal.loop-i-init
loop-i-init c =
    let a = c.args in
    let f = a.flights.now in
    let h = a.holds.now in
    (refl, rw (no_lines f h) (put_none a.out.now a.start (omega (arith, c.requires.1))))

pub put_plan_line-at-requires : goal.put_plan_line-at-requires
put_plan_line-at-requires c =
    let a = c.args in
    let f = a.flights.now in
    let h = a.holds.now in
    let l = c.loop-i in
    let t : l.i < length h = c.loop-i-test.true in
    (t, omega (arith, c.requires.0), omega (arith, lines_room f h l.i (length h) t, l.invariant.1.place, l.invariant.0, c.requires.1))

pub loop-i-preserved : goal.loop-i-preserved
loop-i-preserved c =
    let a = c.args in
    let f = a.flights.now in
    let h = a.holds.now in
    let l = c.loop-i in
    let t : l.i < length h = c.loop-i-test.true in
    let p = lines_room f h l.i (length h) t in
    let q = then (omega (arith, p, c.requires.1)) l.invariant.1 c.put_plan_line-at.ensures in
    (put_length (simp length-append (omega (arith, p, c.requires.1))) q, rw (lines_part f h l.i) q)

pub returns : goal.returns
returns c =
    let a = c.args in
    let f = a.flights.now in
    let h = a.holds.now in
    let l = c.loop-i in
    let e : l.i ≡ length h = omega arith in
    rw e at l.invariant.1
