-- The landing was taken last: in a period that is not counted nothing was taken, else one place of what is left.
-- Assumes nothing.
use native.Mathlib.Omega.{arith}
use Rattle.completion.proofs.Steps.{last_in, lands_from, lands_in, left_fits, back_closing, back_in}
use Rattle.completion.proofs.give_back.Goals as goal

pub land_of-k-requires : goal.land_of-k-requires
land_of-k-requires c = let s = c.requires in let l = last_in s in (omega (arith, s.each, l), l)

pub overflow_sub-at : goal.overflow_sub-at
overflow_sub-at c =
    let s = c.requires in lands_from s (last_in s) c.land_of-k.ensures.0

pub bounds-left-at : goal.bounds-left-at
bounds-left-at c =
    let s = c.requires in
    lands_in s (last_in s) c.land_of-k.ensures.0 (rw c.counted.ensures at c.if-k-counted.true)

pub overflow_add-left : goal.overflow_add-left
overflow_add-left c =
    let s = c.requires in
    omega (arith, left_fits s (last_in s) c.land_of-k.ensures.0 (rw c.counted.ensures at c.if-k-counted.true))

pub bounds-left-at-then-k-counted : goal.bounds-left-at-then-k-counted
bounds-left-at-then-k-counted c =
    let s = c.requires in
    lands_in s (last_in s) c.land_of-k.ensures.0 (rw c.counted.ensures at c.if-k-counted.true)

pub returns-then-k-counted : goal.returns-then-k-counted
returns-then-k-counted c =
    let s = c.requires in
    back_in s c.land_of-k.ensures.0 (last_in s) (rw c.counted.ensures at c.if-k-counted.true)

pub returns-else-k-counted : goal.returns-else-k-counted
returns-else-k-counted c =
    back_closing c.requires c.land_of-k.ensures.0 (rw c.counted.ensures at c.if-k-counted.false)
