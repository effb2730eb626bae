use lib.ListN.{length-set}
use mathlib.Core.Path.{◌≡◌}
use native.Mathlib.Omega.{arith}
use mathlib.Core.Bool.{true, false}
use Rattle.plan_text.proofs.Placing.{length_plan_names}
use Rattle.plan_reader.proofs.Reading.{read_inside, read_place, stops_at_line, stops_at_landing, goes_to_next, same_rows}
use Rattle.completion.proofs.Completion.{partial_set}
use Rattle.plan_reader.proofs.read_lines.Goals as goal

pub loop-i-init : goal.loop-i-init
loop-i-init c =
    (rw length_plan_names at c.requires, c.flight_count-n.ensures.0)

pub hold_at-requires : goal.hold_at-requires
hold_at-requires c = (read_inside c.loop-i.invariant.0, read_place c.loop-i.invariant.0 (omega (arith, c.loop-i-test.true, c.loop-i.invariant.1)))

pub shape_of-left-in_default : goal.shape_of-left-in_default
shape_of-left-in_default c =
    (same_rows c.requires c.loop-i.invariant.0.partial).1

pub returns-in_default : goal.returns-in_default
returns-in_default c =
    stops_at_line c.loop-i.invariant.0 (omega (arith, c.loop-i-test.true, c.loop-i.invariant.1)) (rw c.in_default.is at c.hold_at.ensures)

pub take_landing-requires : goal.take_landing-requires
take_landing-requires c =
    (partial_set c.loop-i.invariant.0.partial _, omega (arith, c.loop-i-test.true, c.loop-i.invariant.1))

pub shape_of-holds-then-not-take_landing : goal.shape_of-holds-then-not-take_landing
shape_of-holds-then-not-take_landing c = simp length-set (omega arith)

pub shape_of-left-then-not-take_landing : goal.shape_of-left-then-not-take_landing
shape_of-left-then-not-take_landing c =
    let broken : c.take_landing.result ≡ false = c.if-not-take_landing.true in
    (same_rows c.requires (rw (broken) at c.take_landing.ensures).1).1

pub returns-then-not-take_landing : goal.returns-then-not-take_landing
returns-then-not-take_landing c =
    let broken : c.take_landing.result ≡ false = c.if-not-take_landing.true in
    let read = rw c.in-Some.is at c.hold_at.ensures in
    stops_at_landing c.loop-i.invariant.0 (omega (arith, c.loop-i-test.true, c.loop-i.invariant.1)) _ _ read (rw (broken) at c.take_landing.ensures)

pub loop-i-preserved : goal.loop-i-preserved
loop-i-preserved c =
    let landed : c.take_landing.result ≡ true = c.if-not-take_landing.false in
    let read = rw c.in-Some.is at c.hold_at.ensures in
    (goes_to_next c.loop-i.invariant.0 (omega (arith, c.loop-i-test.true, c.loop-i.invariant.1)) _ _ read (rw (landed) at c.take_landing.ensures), c.loop-i.invariant.1)

pub shape_of-left : goal.shape_of-left
shape_of-left c =
    (same_rows c.requires c.loop-i.invariant.0.partial).1
