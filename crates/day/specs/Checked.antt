-- A day as a call has it: two rows and a closing number as they are lent, before the day check and after it.
-- Assumes nothing.
use Rattle.day.specs.Day.{Day, lent, unlimited}
use Rattle.day.specs.declared.valid_day.LentDay.{LentDay}
use Rattle.day.specs.declared.valid_day.ValidDay.{ValidDay}

abbrev pub lent_day : LentDay → Day
lent_day d = lent d.capacities d.flights d.closing

abbrev pub day_of : ValidDay → Day
day_of d = lent d.capacities d.flights d.closing

-- the same without its closing line: the insertion plans so
abbrev pub open_day : ValidDay → Day
open_day d = lent d.capacities d.flights unlimited
