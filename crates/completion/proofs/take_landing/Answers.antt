-- The landing is too long, in a period that is not counted, in a full period, or taken from what is left.
-- Assumes nothing.
use native.Mathlib.Omega.{arith}
use Rattle.day.proofs.Valid.{valid_means}
use Rattle.legality.proofs.Laws.{long_of}
use Rattle.completion.proofs.Steps.{lands_from, lands_in, landing_long, landing_closing, landing_full, landing_taken}
use Rattle.completion.proofs.take_landing.Goals as goal

pub land_of-k-requires : goal.land_of-k-requires
land_of-k-requires c = (omega (arith, c.requires.0.each, c.requires.1), c.requires.1)

pub is_too_long-requires : goal.is_too_long-requires
is_too_long-requires c = (valid_means c.args.day.good).periods_to

pub returns-then-is_too_long : goal.returns-then-is_too_long
returns-then-is_too_long c =
    landing_long c.requires.0 c.requires.1 c.land_of-k.ensures.0 (long_of _ _ c.is_too_long.ensures c.flight_at.ensures c.if-is_too_long.true)

pub returns-then-counted-k : goal.returns-then-counted-k
returns-then-counted-k c =
    let short = long_of _ _ c.is_too_long.ensures c.flight_at.ensures c.if-is_too_long.false in
    landing_closing c.requires.0 c.requires.1 c.land_of-k.ensures.0 short (rw c.counted.ensures at c.if-counted-k.true)

pub overflow_sub-at : goal.overflow_sub-at
overflow_sub-at c =
    lands_from c.requires.0 c.requires.1 c.land_of-k.ensures.0

pub bounds-left-at : goal.bounds-left-at
bounds-left-at c =
    lands_in c.requires.0 c.requires.1 c.land_of-k.ensures.0 (rw c.counted.ensures at c.if-counted-k.false)

pub returns-then-left-at-eq0 : goal.returns-then-left-at-eq0
returns-then-left-at-eq0 c =
    let short = long_of _ _ c.is_too_long.ensures c.flight_at.ensures c.if-is_too_long.false in
    landing_full c.requires.0 c.requires.1 c.land_of-k.ensures.0 short (rw c.counted.ensures at c.if-counted-k.false) c.if-left-at-eq0.true

pub bounds-left-at-2 : goal.bounds-left-at-2
bounds-left-at-2 c =
    lands_in c.requires.0 c.requires.1 c.land_of-k.ensures.0 (rw c.counted.ensures at c.if-counted-k.false)

pub bounds-left-at-3 : goal.bounds-left-at-3
bounds-left-at-3 c =
    lands_in c.requires.0 c.requires.1 c.land_of-k.ensures.0 (rw c.counted.ensures at c.if-counted-k.false)

pub returns : goal.returns
returns c =
    let short = long_of _ _ c.is_too_long.ensures c.flight_at.ensures c.if-is_too_long.false in
    landing_taken c.requires.0 c.requires.1 c.land_of-k.ensures.0 short (rw c.counted.ensures at c.if-counted-k.false) c.if-left-at-eq0.false
