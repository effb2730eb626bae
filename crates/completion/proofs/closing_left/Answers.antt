-- The entry behind those of the periods, if there is one.
-- Assumes nothing.
use native.Mathlib.Omega.{arith}
use lib.ListN.{length}
use borrow.Author.Tests.{lt-ltb, le-ltb}
use Rattle.day.specs.Day.{unlimited}
use Rattle.day.proofs.Costs.{counted_line}
use Rattle.completion.proofs.closing_left.Goals as goal

pub bounds-left-day : goal.bounds-left-day
bounds-left-day c = omega (arith, c.requires, counted_line (length c.args.day.capacities.now) c.args.day.closing c.if-day-lt-UNLIMITED.true)

pub returns-then-day-lt-UNLIMITED : goal.returns-then-day-lt-UNLIMITED
returns-then-day-lt-UNLIMITED c = rw (lt-ltb c.args.day.closing unlimited c.if-day-lt-UNLIMITED.true)

pub returns : goal.returns
returns c = rw (le-ltb c.args.day.closing unlimited c.if-day-lt-UNLIMITED.false)
