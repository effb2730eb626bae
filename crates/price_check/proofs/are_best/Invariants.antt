-- The flights passed land where they pay least.
-- Assumes nothing.
use Prim.Native.Nat.{ℕ, ◌<◌}
use Rattle.day.specs.Checked.{day_of}
use Rattle.price_check.specs.Check.{Best}
use Rattle.price_check.proofs.are_best.Given as goal

abbrev pub invariant-loop-i : goal.invariant-loop-i
invariant-loop-i l = (j : ℕ) → j < l.i → Best (day_of l.day) l.holds l.prices j
