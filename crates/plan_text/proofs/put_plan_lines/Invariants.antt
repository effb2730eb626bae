-- After i turns the first i lines are written.
use Rattle.text.specs.Writing.{Put}
use Rattle.plan_text.specs.PlanText.{plan_lines}
use mathlib.Core.Path.{◌≡◌}
use lib.ListN.{length}
use Rattle.plan_text.proofs.put_plan_lines.Given as goal

abbrev pub invariant-loop-i : goal.invariant-loop-i
invariant-loop-i l = (length l.out ≡ length l.initial.out) × Put l.initial.out l.start (plan_lines l.flights l.holds l.i 0) l.at l.out
