use Rattle.text.proofs.Writing.{grown_none, grown_room, grown_more, separated_part, no_numbers}
use Rattle.text.specs.Digits.{ended}
use native.Mathlib.Omega.{arith}
use lib.ListN.{get_or}
use Rattle.text.proofs.put_separated_at.Goals as goal

pub loop-n-init : goal.loop-n-init
loop-n-init c = rw no_numbers (grown_none c.args.out.now c.args.at (omega arith))

pub put_number_at-next-requires : goal.put_number_at-next-requires
put_number_at-next-requires c =
    let l = c.loop-n in
    let ns = c.args.numbers.now in
    grown_room l.invariant (ended 44 (get_or ns l.n-index 0)) (omega (arith, (separated_part ns l.n-index (omega arith)).1, c.requires))

pub loop-n-preserved : goal.loop-n-preserved
loop-n-preserved c =
    let l = c.loop-n in
    let p = separated_part c.args.numbers.now l.n-index (omega arith) in
    rw p.0 (grown_more l.invariant (omega (arith, p.1, c.requires)) c.put_number_at-next.ensures)
