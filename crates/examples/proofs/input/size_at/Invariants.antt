-- At most five digits, so the value is small.
-- Assumes nothing.
use Rattle.std.proofs.Common.{◌≤◌}
use Rattle.examples.proofs.input.size_at.Given as goal

abbrev pub invariant-loop-end : goal.invariant-loop-end
invariant-loop-end l = l.value ≤ 100000
