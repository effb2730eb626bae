use mathlib.Core.Path.{◌≡◌, ◌∙◌}
use native.Mathlib.Omega.{arith}
use borrow.Author.Rules.{rules}
use Rattle.std.specs.Option.{option_map}
use Rattle.day.proofs.Valid.{valid_means}
use Rattle.quick_plan.specs.declared.Waiting.{Waiting}
use Rattle.quick_plan.proofs.Same.{valid_rows}
use Rattle.quick_plan.proofs.Steps.{scan_start, scan_there, scan_due, best_there, scan_skip, scan_fresh, scan_better, scan_worse, scan_end}
use Rattle.quick_plan.proofs.first_waiting.Goals as goal
use Rattle.quick_plan.proofs.first_waiting.Goals.{then-is_waiting+in-Some, then-is_waiting+in_default-2, then-is_waiting+in_default, else-is_waiting}

pub loop-place-init : goal.loop-place-init
loop-place-init c = scan_start _ (valid_rows _ c.args.day.good) c.requires.0

pub is_waiting-requires : goal.is_waiting-requires
is_waiting-requires c = (scan_there c.loop-place.invariant c.loop-place-test.true, c.loop-place-test.true, (valid_means c.args.day.good).periods_to)

pub next_cost-cost-requires : goal.next_cost-cost-requires
next_cost-cost-requires c =
    (c.requires.1, c.requires.2, scan_due c.loop-place.invariant c.loop-place-test.true c.is_waiting.ensures c.if-is_waiting.true)

pub goes_before-requires : goal.goes_before-requires
goes_before-requires c = (scan_there c.loop-place.invariant c.loop-place-test.true, best_there (rw c.in-Some.is at c.loop-place.invariant))

pub loop-place-preserved : goal.loop-place-preserved
loop-place-preserved c =
    elim c.if-is_waiting.branch [
      | then-is_waiting+in-Some w ↦ rw w.best-is (scan_worse c.loop-place.invariant c.loop-place-test.true c.is_waiting.ensures w.next_cost-cost.ensures w.if-is_waiting.true w.in-Some.is w.goes_before.ensures w.if-not-goes_before.true)
      | then-is_waiting+in_default-2 w ↦ rw w.best-is (scan_better c.loop-place.invariant c.loop-place-test.true c.is_waiting.ensures w.next_cost-cost.ensures w.if-is_waiting.true w.in-Some.is w.goes_before.ensures w.if-not-goes_before.false)
      | then-is_waiting+in_default w ↦ rw w.best-is (scan_fresh c.loop-place.invariant c.loop-place-test.true c.is_waiting.ensures w.next_cost-cost.ensures w.if-is_waiting.true w.in_default.is)
      | else-is_waiting w ↦ rw w.best-is (scan_skip c.loop-place.invariant c.loop-place-test.true c.is_waiting.ensures w.if-is_waiting.false)
    ]

pub returns : goal.returns
returns c =
    let e : c.map.result ≡ option_map (λ (w : Waiting). w.place) c.loop-place.best = search rules in
    e ∙ scan_end _ c.loop-place.invariant (omega arith)
