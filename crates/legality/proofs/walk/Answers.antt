use native.Mathlib.Omega.{arith}
use mathlib.Core.Path.{sym, ◌∙◌}
use Rattle.day.specs.Checked.{day_of}
use Rattle.day.proofs.Valid.{valid_means}
use Rattle.legality.proofs.Laws.{long_of, walk_long, walk_by, walk_in, walk_fits, walk_over, walk_next, walk_end, over_if, not_over}
use Rattle.legality.proofs.walk.Goals as goal

pub land_of-k-requires : goal.land_of-k-requires
land_of-k-requires c = omega (arith, c.loop-place.invariant.each)

pub flight_at-requires : goal.flight_at-requires
flight_at-requires c = omega (arith, c.loop-place.invariant.each)

pub is_too_long-requires : goal.is_too_long-requires
is_too_long-requires c = (valid_means c.loop-place.invariant.good).periods_to

pub returns-then-is_too_long : goal.returns-then-is_too_long
returns-then-is_too_long c =
    walk_long c.loop-place.invariant c.loop-place-test.true c.land_of-k.ensures.0 (long_of _ _ c.is_too_long.ensures c.flight_at.ensures c.if-is_too_long.true)

pub bounds-loads-k : goal.bounds-loads-k
bounds-loads-k c =
    let short = long_of _ _ c.is_too_long.ensures c.flight_at.ensures c.if-is_too_long.false in
    omega (arith, walk_in c.loop-place.invariant c.loop-place-test.true c.land_of-k.ensures.0 short, c.loop-place.invariant.sizes)

pub overflow_add-load : goal.overflow_add-load
overflow_add-load c =
    let short = long_of _ _ c.is_too_long.ensures c.flight_at.ensures c.if-is_too_long.false in
    omega (arith, walk_fits c.loop-place.invariant c.loop-place-test.true c.land_of-k.ensures.0 short)

pub returns-then-capacity_of-load : goal.returns-then-capacity_of-load
returns-then-capacity_of-load c =
    let short = long_of _ _ c.is_too_long.ensures c.flight_at.ensures c.if-is_too_long.false in
    let by = walk_by c.loop-place.invariant c.loop-place-test.true c.land_of-k.ensures.0 short in
    let few = walk_fits c.loop-place.invariant c.loop-place-test.true c.land_of-k.ensures.0 short in
    walk_over c.loop-place.invariant c.loop-place-test.true c.land_of-k.ensures.0 short
    (over_if (day_of c.args.day) _ _ _ by (omega (arith, few)) c.capacity_of.ensures c.if-capacity_of-load.true)

pub bounds-loads-k-in-loop-place : goal.bounds-loads-k-in-loop-place
bounds-loads-k-in-loop-place c =
    let short = long_of _ _ c.is_too_long.ensures c.flight_at.ensures c.if-is_too_long.false in
    omega (arith, walk_in c.loop-place.invariant c.loop-place-test.true c.land_of-k.ensures.0 short, c.loop-place.invariant.sizes)

pub loop-place-preserved : goal.loop-place-preserved
loop-place-preserved c =
    let short = long_of _ _ c.is_too_long.ensures c.flight_at.ensures c.if-is_too_long.false in
    let by = walk_by c.loop-place.invariant c.loop-place-test.true c.land_of-k.ensures.0 short in
    let few = walk_fits c.loop-place.invariant c.loop-place-test.true c.land_of-k.ensures.0 short in
    walk_next c.loop-place.invariant c.loop-place-test.true c.land_of-k.ensures.0 short
    (not_over (day_of c.args.day) _ _ _ by (omega (arith, few)) c.capacity_of.ensures c.if-capacity_of-load.false)

pub returns : goal.returns
returns c = walk_end c.loop-place.invariant c.loop-place-test.false
