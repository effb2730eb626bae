-- Rows of zeros chain no flight.
-- Assumes nothing.
use Rattle.day.proofs.Chains.{pass_start}
use Rattle.day.proofs.numbers_differ.Goals as goal

pub numbers_differ_in-requires : goal.numbers_differ_in-requires
numbers_differ_in-requires c = pass_start c.requires.0 c.requires.1
