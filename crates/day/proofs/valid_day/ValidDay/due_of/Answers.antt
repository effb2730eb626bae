-- The row has the flight's numbers. A valid day says how large this one is.
-- Assumes nothing.
use Rattle.day.proofs.Rows.{row_holds}
use Rattle.day.proofs.Valid.{valid_means}
use Rattle.std.proofs.Common.{arith}
use Rattle.day.proofs.valid_day.ValidDay.due_of.Goals as goal

pub due_of-requires : goal.due_of-requires
due_of-requires c = row_holds _ c.args.self.good c.requires

pub returns : goal.returns
returns c = let most = ((valid_means c.args.self.good).flight c.args.i c.requires).due_to in (c.due_of.ensures.0, omega (arith, most, c.due_of.ensures.0))
