use mathlib.Core.Path.{refl}
use native.Mathlib.Omega.{arith}
use Rattle.forecast_plan.proofs.Placing.{placed_ready, placed_lands, placed_due, placed_total, placed_cost_most, placed_turns, placed_next, placed_all}
use Rattle.forecast_plan.proofs.hold_all.Goals as goal

pub flight_at-f-requires : goal.flight_at-f-requires
flight_at-f-requires c = omega (arith, c.loop-i.invariant.each)

pub hold_of-chosen-requires : goal.hold_of-chosen-requires
hold_of-chosen-requires c = placed_ready c.loop-i.invariant (omega arith) c.flight_at-f.ensures

pub overflow_add-held_to : goal.overflow_add-held_to
overflow_add-held_to c =
    omega (arith, placed_due c.loop-i.invariant (omega arith) c.flight_at-f.ensures c.hold_of-chosen.ensures refl)

pub offset_bounds-held-held_to : goal.offset_bounds-held-held_to
offset_bounds-held-held_to c =
    omega (arith, placed_due c.loop-i.invariant (omega arith) c.flight_at-f.ensures c.hold_of-chosen.ensures refl)

pub bounds-held-held_to : goal.bounds-held-held_to
bounds-held-held_to c =
    omega (arith, placed_due c.loop-i.invariant (omega arith) c.flight_at-f.ensures c.hold_of-chosen.ensures refl, c.loop-i.invariant.turns.counts.places)

pub bounds-held-held_to-in-loop-i : goal.bounds-held-held_to-in-loop-i
bounds-held-held_to-in-loop-i c =
    omega (arith, placed_due c.loop-i.invariant (omega arith) c.flight_at-f.ensures c.hold_of-chosen.ensures refl, c.loop-i.invariant.turns.counts.places)

pub refresh-requires : goal.refresh-requires
refresh-requires c =
    let placed = c.loop-i.invariant in
    let flight = c.flight_at-f.ensures in
    let chosen = c.hold_of-chosen.ensures in
    placed_turns placed (omega arith) flight chosen (placed_lands placed (omega arith) flight chosen refl) refl

pub overflow_cast-holds : goal.overflow_cast-holds
overflow_cast-holds c =
    omega (arith, placed_due c.loop-i.invariant (omega arith) c.flight_at-f.ensures c.hold_of-chosen.ensures refl)

pub overflow_add-total : goal.overflow_add-total
overflow_add-total c =
    let placed = c.loop-i.invariant in
    omega (arith, placed_total placed (omega arith), placed_cost_most placed (omega arith) c.flight_at-f.ensures c.hold_of-chosen.ensures, placed.upto, placed.fit.good.flights_to)

pub loop-i-preserved : goal.loop-i-preserved
loop-i-preserved c =
    let placed = c.loop-i.invariant in
    let flight = c.flight_at-f.ensures in
    let chosen = c.hold_of-chosen.ensures in
    placed_next placed (omega arith) flight chosen (placed_lands placed (omega arith) flight chosen refl) refl c.refresh.ensures

pub returns : goal.returns
returns c = let all = placed_all c.loop-i.invariant (omega arith) in record { value = all.0; holds_after = all.1 }
