-- The table's rule at the entry that is read. Assumes nothing.
use Rattle.growth.specs.Growth.{HoldsFactors}
use Rattle.growth.proofs.factor.Goals as goal

pub returns : goal.returns
unfolding HoldsFactors
returns c = let p = c.requires in p.0 _ _ p.1 p.2
