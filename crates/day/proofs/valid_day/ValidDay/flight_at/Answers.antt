-- The row has the flight's numbers.
-- Assumes nothing.
use Rattle.day.proofs.Rows.{row_holds}
use Rattle.day.proofs.valid_day.ValidDay.flight_at.Goals as goal

pub flight_at-requires : goal.flight_at-requires
flight_at-requires c = row_holds _ c.args.self.good c.requires
