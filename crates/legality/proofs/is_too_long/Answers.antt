-- The two comparisons.
-- Assumes nothing.
use borrow.Author.Tests.{lt-ltb, le-ltb}
use Rattle.day.specs.Plan.{too_long_of}
use Rattle.legality.proofs.is_too_long.Goals as goal

pub returns-then-periods-k : goal.returns-then-periods-k
unfolding too_long_of
returns-then-periods-k c = rw (lt-ltb _ _ c.if-periods-k.true)

pub returns-else-periods-k : goal.returns-else-periods-k
unfolding too_long_of
returns-else-periods-k c = rw (c.latest_of.ensures, le-ltb _ _ c.if-periods-k.false)
