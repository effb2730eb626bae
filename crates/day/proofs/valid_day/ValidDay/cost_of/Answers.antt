-- The row has the flight's numbers.
-- Assumes nothing.
use Rattle.day.proofs.Rows.{row_holds}
use Rattle.day.proofs.valid_day.ValidDay.cost_of.Goals as goal

pub cost_of-requires : goal.cost_of-requires
cost_of-requires c = (row_holds _ c.args.self.good c.requires.0, c.requires.1)
