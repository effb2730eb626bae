-- The row has the flight's numbers.
-- Assumes nothing.
use Rattle.day.proofs.Rows.{row_holds}
use Rattle.day.proofs.valid_day.ValidDay.land_of.Goals as goal

pub land_of-requires : goal.land_of-requires
land_of-requires c = (c.requires.0, row_holds _ c.args.self.good c.requires.1)
