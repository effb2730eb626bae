use Rattle.text.proofs.Writing.{grown_none, grown_room, grown_more}
use Rattle.sheet_writer.proofs.Placing.{period_part, no_periods}
use Rattle.sheet.specs.Text.{period_text}
use Prim.Native.Nat.{◌+◌}
use native.Mathlib.Omega.{arith}
use lib.ListN.{get_or}
use Rattle.sheet_writer.proofs.put_periods.Goals as goal

pub loop-i-init : goal.loop-i-init
loop-i-init c = rw no_periods (grown_none _ _ (omega (arith, c.requires)))

pub put_period_at-at-requires : goal.put_period_at-at-requires
put_period_at-at-requires c =
    let l = c.loop-i in
    let caps = c.args.capacities.now in
    grown_room l.invariant (period_text (l.i + 1) (get_or caps l.i 0)) (omega (arith, (period_part caps l.i (omega arith)).1, c.requires.0))

pub loop-i-preserved : goal.loop-i-preserved
loop-i-preserved c =
    let l = c.loop-i in
    let p = period_part c.args.capacities.now l.i (omega arith) in
    rw p.0 (grown_more l.invariant (omega (arith, p.1, c.requires.0)) c.put_period_at-at.ensures)
