-- The parts that are lent on have the lengths of the day.
-- Assumes nothing.
use mathlib.Core.Path.{sym}
use Rattle.program.proofs.Reading.{priced_within, priced_length, can_plan}
use Rattle.program.proofs.plan_rows.Goals as goal

pub slice_bounds-prices-end : goal.slice_bounds-prices-end
slice_bounds-prices-end c = priced_within c.requires.0 c.counted_of-priced.ensures

pub slice_bounds-plan_day-end-2 : goal.slice_bounds-plan_day-end-2
slice_bounds-plan_day-end-2 c = sym (priced_length c.requires.0 c.counted_of-priced.ensures)

pub plan_day-requires : goal.plan_day-requires
plan_day-requires c = can_plan c.requires.0 c.args.text.now c.counted_of-priced.ensures c.requires.1
