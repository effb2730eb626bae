use native.Mathlib.Omega.{arith}
use mathlib.Core.Path.{refl}
use Rattle.path.proofs.Expanding.{expanding_start, expanding_end, expanding_room, expanding_less, expanding_stands, expanding_home, expanding_small, expanding_can, expanding_offered}
use Rattle.path.proofs.expand.Goals as goal

pub loop-next-init : goal.loop-next-init
loop-next-init c =
    expanding_start c.requires c.of_period-price.ensures.0

pub overflow_add-next : goal.overflow_add-next
overflow_add-next c = omega (arith, expanding_room c.loop-next.invariant c.loop-next-test.true)

pub offset_bounds-links-who : goal.offset_bounds-links-who
offset_bounds-links-who c = omega (arith, expanding_room c.loop-next.invariant c.loop-next-test.true)

pub bounds-links-who : goal.bounds-links-who
bounds-links-who c = (expanding_room c.loop-next.invariant c.loop-next-test.true).1

pub offset_bounds-places-who : goal.offset_bounds-places-who
offset_bounds-places-who c = omega (arith, expanding_room c.loop-next.invariant c.loop-next-test.true)

pub bounds-places-who : goal.bounds-places-who
bounds-places-who c = (expanding_room c.loop-next.invariant c.loop-next-test.true).0

pub flight_at-f-requires : goal.flight_at-f-requires
flight_at-f-requires c = expanding_stands c.loop-next.invariant c.loop-next-test.true refl

pub overflow_sub-k : goal.overflow_sub-k
overflow_sub-k c =
    (expanding_home c.loop-next.invariant c.loop-next-test.true refl c.flight_at-f.ensures refl).0

pub overflow_add-base : goal.overflow_add-base
overflow_add-base c =
    omega (arith, expanding_small c.loop-next.invariant c.loop-next-test.true refl c.flight_at-f.ensures refl c.hold_cost.ensures)

pub offer-requires : goal.offer-requires
offer-requires c =
    expanding_can c.loop-next.invariant c.loop-next-test.true refl c.flight_at-f.ensures refl c.hold_cost.ensures

pub loop-next-smaller : goal.loop-next-smaller
loop-next-smaller c =
    expanding_less c.loop-next.invariant c.loop-next-test.true

pub loop-next-preserved : goal.loop-next-preserved
loop-next-preserved c =
    expanding_offered c.loop-next.invariant c.loop-next-test.true refl c.flight_at-f.ensures refl c.hold_cost.ensures c.offer.auto.dist c.offer.auto.via c.offer.ensures

pub returns : goal.returns
returns c = expanding_end c.loop-next.invariant c.loop-next-test.false
