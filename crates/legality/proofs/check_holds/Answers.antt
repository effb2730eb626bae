-- The refusals in the order of the definition.
-- Assumes nothing.
use Rattle.legality.proofs.Laws.{check_bad_length, check_not_legal, check_legal, can_sum}
use mathlib.Core.Path.{◌∙◌}
use Rattle.legality.proofs.check_holds.Goals as goal

pub returns-then-holds-needed : goal.returns-then-holds-needed
returns-then-holds-needed c = check_bad_length _ _ c.args.day.good c.flight_count-needed.ensures.0 c.if-holds-needed.true

pub first_break-requires : goal.first_break-requires
first_break-requires c = c.if-holds-needed.false ∙ c.flight_count-needed.ensures.0

pub returns-in-Some : goal.returns-in-Some
returns-in-Some c = check_not_legal _ _ c.args.day.good c.flight_count-needed.ensures.0 c.if-holds-needed.false c.in-Some.ensures

pub total_of-requires : goal.total_of-requires
total_of-requires c = can_sum _ c.args.day.good (c.if-holds-needed.false ∙ c.flight_count-needed.ensures.0)

pub returns : goal.returns
returns c = check_legal _ _ c.args.day.good c.flight_count-needed.ensures.0 c.if-holds-needed.false c.in_default.ensures c.total_of.ensures
