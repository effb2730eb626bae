-- After i turns the lengths of the first i lines are summed.
use Rattle.plan_text.specs.PlanText.{plan_lines}
use Prim.Native.Nat.{◌≤◌, ◌*◌}
use mathlib.Core.Path.{◌≡◌}
use lib.ListN.{length}
use Rattle.plan_text.proofs.plan_lines_len.Given as goal

abbrev pub invariant-loop-i : goal.invariant-loop-i
invariant-loop-i l = (l.sum ≡ length (plan_lines l.flights l.holds l.i 0)) × (l.sum ≤ 105 * l.i)
