-- A valid day is valid without its closing line.
-- Assumes nothing.
use Rattle.day.proofs.Curfew.{valid_open}
use Rattle.day.proofs.valid_day.ValidDay.open.Goals as goal

pub invariant_of-result : goal.invariant_of-result
invariant_of-result c = record { good = valid_open _ c.args.self.good }
