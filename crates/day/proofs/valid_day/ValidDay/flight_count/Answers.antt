-- A valid day has at most 128.
-- Assumes nothing.
use Rattle.day.proofs.Valid.{valid_means}
use Rattle.std.proofs.Common.{arith}
use Rattle.day.proofs.valid_day.ValidDay.flight_count.Goals as goal

pub returns : goal.returns
returns c = (c.flight_count.ensures, omega (arith, c.flight_count.ensures, (valid_means c.args.self.good).flights_to))
