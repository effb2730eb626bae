-- A valid day has at most 96 periods.
-- Assumes nothing.
use Rattle.day.proofs.Valid.{valid_means}
use Rattle.day.proofs.valid_day.ValidDay.capacity_of.Goals as goal

pub capacity_of-requires : goal.capacity_of-requires
capacity_of-requires c = (valid_means c.args.self.good).periods_to
