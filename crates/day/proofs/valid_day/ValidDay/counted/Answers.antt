-- A valid day has at most 96 periods.
-- Assumes nothing.
use Rattle.day.proofs.Valid.{valid_means}
use Rattle.day.proofs.valid_day.ValidDay.counted.Goals as goal

pub counted_of-requires : goal.counted_of-requires
counted_of-requires c = (valid_means c.args.self.good).periods_to
