use mathlib.Core.Path.{refl}
use native.Mathlib.Omega.{arith}
use Rattle.path.proofs.Offering.{offering_start, offering_beyond, offering_from, offering_room, offering_reach, offering_stop, offering_small, offering_next, offering_last, offering_price, price_is, target_at, target_free}
use Rattle.path.proofs.offer.Goals as goal

pub loop-z-init : goal.loop-z-init
loop-z-init c = offering_start c.requires c.latest_of-last.ensures c.first_from-z.ensures

pub returns-then-last-at : goal.returns-then-last-at
returns-then-last-at c = offering_beyond c.loop-z.invariant refl c.if-last-at.true

pub overflow_sub-at : goal.overflow_sub-at
overflow_sub-at c = offering_from c.loop-z.invariant refl

pub overflow_add-reach : goal.overflow_add-reach
overflow_add-reach c = omega (arith, offering_reach c.loop-z.invariant refl c.if-last-at.false c.hold_cost.ensures)

pub returns-then-goal-reach : goal.returns-then-goal-reach
returns-then-goal-reach c =
    offering_stop c.loop-z.invariant refl c.if-last-at.false c.hold_cost.ensures c.if-goal-reach.true

pub bounds-prices-at : goal.bounds-prices-at
bounds-prices-at c = (offering_price c.loop-z.invariant refl c.if-last-at.false c.loop-z-test.true).1

pub overflow_sub-reach : goal.overflow_sub-reach
overflow_sub-reach c =
    (offering_small c.loop-z.invariant refl c.if-last-at.false c.hold_cost.ensures (price_is c.loop-z.invariant refl c.if-last-at.false refl)).0

pub bring_nearer-requires : goal.bring_nearer-requires
bring_nearer-requires c =
    let r = offering_room c.loop-z.invariant refl c.if-last-at.false in (r.0, r.1, r.2)

pub loop-z-preserved : goal.loop-z-preserved
loop-z-preserved c =
    offering_next c.loop-z.invariant refl c.if-last-at.false c.hold_cost.ensures (price_is c.loop-z.invariant refl c.if-last-at.false refl) refl c.bring_nearer.ensures c.loop-z-test.true

pub returns-then-target-last : goal.returns-then-target-last
returns-then-target-last c =
    offering_last c.loop-z.invariant (target_at c.loop-z.invariant (omega (arith, c.loop-z-test.false, c.loop-z.invariant.upto))) c.if-target-last.true c.hold_cost-then-target-last.ensures (target_free c.loop-z.invariant (omega (arith, c.loop-z-test.false, c.loop-z.invariant.upto))) (omega arith) c.bring_nearer-then-target-last.ensures (omega (arith, c.loop-z-test.false, c.loop-z.invariant.upto))

pub returns-else-target-last : goal.returns-else-target-last
returns-else-target-last c = offering_beyond c.loop-z.invariant (target_at c.loop-z.invariant (omega (arith, c.loop-z-test.false, c.loop-z.invariant.upto))) c.if-target-last.false
