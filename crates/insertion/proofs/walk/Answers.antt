use mathlib.Core.Path.{refl}
use Rattle.insertion.proofs.Steps.{walking_start, walking_hold, walking_stays, walking_room, walking_left, walking_falls, walking_step, walking_end}
use Rattle.insertion.proofs.walk.Goals as goal

pub loop-from-init : goal.loop-from-init
loop-from-init c = walking_start c.requires

pub hold_until-requires : goal.hold_until-requires
hold_until-requires c =
    walking_hold c.loop-from.invariant (walking_room c.loop-from.invariant c.loop-from-test.true).2 (walking_stays c.loop-from.invariant c.loop-from-test.true) refl

pub bounds-via-at-in-loop-from : goal.bounds-via-at-in-loop-from
bounds-via-at-in-loop-from c =
    (walking_left c.loop-from.invariant c.loop-from-test.true refl c.land_of-left.ensures.0).0

pub loop-from-smaller : goal.loop-from-smaller
loop-from-smaller c =
    walking_falls c.loop-from.invariant c.loop-from-test.true refl c.land_of-left.ensures.0

pub loop-from-preserved : goal.loop-from-preserved
loop-from-preserved c =
    rw (c.hold_until.ensures, c.swap.ensures.after) (walking_step c.loop-from.invariant c.loop-from-test.true refl c.land_of-left.ensures.0)

pub returns : goal.returns
returns c =
    rw c.hold_until-2.ensures (walking_end c.loop-from.invariant c.loop-from-test.false refl)
