-- The walk starts with no landing counted.
-- Assumes nothing.
use Rattle.legality.proofs.Laws.{walk_start}
use Rattle.legality.proofs.first_break.Goals as goal

pub walk-requires : goal.walk-requires
walk-requires c = walk_start c.args.day.good c.requires
