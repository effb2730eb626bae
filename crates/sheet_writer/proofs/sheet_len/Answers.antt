-- The lengths of its parts sum up to the sheet's.
-- Assumes nothing.
use native.Mathlib.Omega.{arith}
use Rattle.day.specs.Checked.{day_of}
use Rattle.day.proofs.Valid.{valid_means}
use Rattle.sheet_writer.proofs.Placing.{length_parts}
use Rattle.sheet_writer.proofs.sheet_len.Goals as goal

pub periods_len-requires : goal.periods_len-requires
periods_len-requires c = (valid_means c.args.day.good).periods_to

pub flights_len-requires : goal.flights_len-requires
flights_len-requires c =
    let n = c.flight_count-n.ensures in
    (n.1, omega (arith, n.0, (valid_means c.args.day.good).whole))

pub returns : goal.returns
returns c = omega (arith, length_parts (day_of c.args.day), c.periods_len.ensures.0, rw c.flight_count-n.ensures.0 at c.flights_len.ensures.0, c.closing_len.ensures.0)
